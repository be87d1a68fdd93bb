-- A fault word that is lowered keeps the rule.
use Rattle.std.proofs.Common.{◌≡◌, ◌≢◌, ℕ, ◌<◌, ◌≤◌, List, get_or, set, min, Some, refl, sym, ap, ◌∙◌}
use Rattle.std.proofs.Common.{subst, ⊎_elim, inl, inr, arith, length-set, get_or-set_other, get_or-set_same}
use mathlib.Core.Logic.{dite}
use mathlib.Core.Option.{none}
use native.Mathlib.Decide.{dec_le}
use Rattle.atomic_table.specs.Table.{Me, step, keeps, Allows}
use Rattle.progress_words.specs.declared.view.View.{View}
use Rattle.progress_words.specs.Meanings.{Meaning, IsData, IsLaid, count_word, ticket_word, fault_word}
use Rattle.progress_words.specs.Faults.{packed, unit_in, NamesBad, IsFault}
use Rattle.progress_words.specs.Core.{count_in, ticket_in, fault_in, AreMet, IsReached}
use Rattle.progress_words.specs.Views.{seen_of, stopping}
use Rattle.progress_words.specs.Rule.{IsHolder, Fits, IsShown, IsOver, Stands, IsNextBad}
use Rattle.progress_words.specs.Steps.{lowered}
use Rattle.progress_words.proofs.Reached.{reached_fault}
use Rattle.progress_words.proofs.Held.{held_set, apart_same}
use Rattle.progress_words.proofs.Ends.{unit_le}
use Rattle.progress_words.proofs.Changes.{changed}

module _ {F : Type 0} (m : Meaning) (key : F) (words : List ℕ) (v : View F) (unit rule : ℕ) (laid : IsLaid m)
    (shown : IsShown m words) (fits : Fits m key words v) (next : IsNextBad m v unit rule) where
  abbrev x : ℕ
  x = min (fault_in m words) (packed unit rule)

  abbrev after : List ℕ
  after = set words (fault_word m) x

  fault_is : fault_in m after ≡ x
  fault_is = let a = laid.room in let b = shown.room in get_or-set_same words (fault_word m) x 0 (omega arith)

  word_same : (w : ℕ) → w ≢ fault_word m → get_or after w 0 ≡ get_or words w 0
  word_same w ne = get_or-set_other words (fault_word m) w x 0 ne

  line_same : (l : ℕ) → l < m.lines → count_in after l ≡ count_in words l
  line_same l inside = word_same (count_word l) (λ e. omega arith)

  ticket_same : ticket_in m after ≡ ticket_in m words
  ticket_same = word_same (ticket_word m) (λ e. omega arith)

  data_same : (w : ℕ) → IsData m w → get_or after w 0 ≡ get_or words w 0
  data_same w here = let a = here.0 in word_same w (λ e. omega arith)

  holder : IsHolder m words v next.line
  holder = fits.job next.line next.job

  names : NamesBad m (packed unit rule)
  names = record {
    line = next.line;
    unit = seen_of v next.line;
    rule = rule;
    bad = next.bad;
    word_is = ap (λ (z : ℕ). packed z rule) next.number;
  }

  is_fault : IsFault m x
  is_fault =
      dite (dec_le (fault_in m words) (packed unit rule))
      (λ le. subst (λ (z : ℕ). IsFault m z) (let same : fault_in m words ≡ x = omega arith in same) shown.fault)
      (λ more. subst (λ (z : ℕ). IsFault m z) (let same : packed unit rule ≡ x = omega arith in same) (inr names))

  lowered_shown : IsShown m after
  lowered_shown = record {
    reached = let a = laid.room in let b = shown.room in let c = holder.count in let d = next.left in
        let n : unit ≡ m.number next.line (count_in words next.line) =
        next.number ∙ ap (m.number next.line) (sym c) in
        subst (λ (z : ℕ). IsReached m (set words (fault_word m)
        (min (fault_in m words) (packed z rule)))) (sym n)
        (reached_fault m words shown.reached next.line rule next.inside (omega arith)
        (laid.ticketed next.line next.inside).0 holder.drawn (omega arith)
        (subst (λ (k : ℕ). m.bad next.line k ≡ Some rule) (sym c) next.bad)
        (subst (λ (k : ℕ). AreMet m (count_in words) (m.read_needs next.line k)) (sym c)
        (λ k e at. let p = next.met k e at in
        let s = fits.seen (get_or (m.read_needs next.line (seen_of v next.line)) k e).0 p.0 in (p.0, omega arith))));
    room = length-set words (fault_word m) x ∙ shown.room;
    counts = λ l inside. let a = line_same l inside in let b = shown.counts l inside in omega arith;
    sound = λ l k inside below. let a = line_same l inside in shown.sound l k inside (omega arith);
    met = λ l k inside below j d at. let a = line_same l inside in
        let p = shown.met l k inside (omega arith) j d at in let b = line_same (get_or (m.needs l k) j d).0 p.0 in
        (p.0, omega arith);
    words_are = λ w here below. let o = laid.inside w here in let a = line_same (m.owner w).line o.0 in
        data_same w here ∙ shown.words_are w here (omega arith);
    idle = λ l inside late. let a = ticket_same in let b = line_same l inside in b ∙ shown.idle l inside (omega arith);
    fault = subst (λ (z : ℕ). IsFault m z) (sym fault_is) is_fault;
    small = let a = fault_is in let b = shown.small in omega arith;
  }

  over_kept : (l : ℕ) → l < m.lines → IsOver m words l → IsOver m after l
  over_kept l inside over =
      let a = line_same l inside in let lower = unit_le x (fault_in m words) (omega arith) in
      ⊎_elim (λ full. inl (a ∙ full))
      (λ stopped. inr (subst (λ (c : ℕ × ℕ). unit_in c.0 ≤ m.number l c.1) (λ i. (sym fault_is i, sym a i))
      (omega arith))) over

  -- every other view
  fits_kept : (u : View F) → Fits m key words u → Fits m key after u
  fits_kept u old = record {
    facts = old.facts;
    seen = λ l inside. let a = line_same l inside in let b = old.seen l inside in omega arith;
    least = let a = fault_is in let b = old.least in omega arith;
    job = λ l has. let h = old.job l has in let a = line_same l h.line in let b = ticket_same in let c = h.drawn in
        let d = h.count in
        record {
          line = h.line;
          drawn = omega arith;
          count = omega arith;
          written = λ w here line unit_is index. data_same w here ∙ h.written w here line (unit_is ∙ a) index;
        };
    none = λ has. let a = old.none has in let b = ticket_same in omega arith;
    spent = old.spent;
    splits = old.splits;
  }

  own_fits : Fits m key after (stopping v x)
  own_fits = let kept = fits_kept v fits in record {
    facts = kept.facts;
    seen = kept.seen;
    least = let a = fault_is in omega arith;
    job = λ l has. let h = kept.job l has in record {
      line = h.line;
      drawn = h.drawn;
      count = h.count;
      written = h.written;
    };
    none = kept.none;
    spent = kept.spent;
    splits = kept.splits;
  }

module _ {F S : Type 0} (meaning : F → Meaning) (key : F) where
  lowers_at : (slots id : ℕ) (me : Me S (View F)) (unit rule : ℕ) → IsNextBad (meaning key) me.0 unit rule
      → Allows (Stands meaning key) slots id me (fault_word (meaning key)) (λ n. min n (packed unit rule))
      (lowered meaning (step slots (fault_word (meaning key)) (packed unit rule) 0 none) me)
  lowers_at slots id me unit rule next s r long at small =
      let m : Meaning = meaning key in let v : View F = me.0 in
      let n : ℕ = min (fault_in m s.words) (packed unit rule) in
      let w : View F = stopping v n in let fits = r.fits id v at in
      let tick = ticket_same m key s.words v unit rule r.laid r.shown fits next in let before = r.ticket in (
        w,
        keeps,
        tt,
        changed meaning key s r (set s.words (fault_word m) n) id v w at (record {
          facts = refl;
          opens = refl;
          splits = refl;
          joins = refl;
        }) (lowered_shown m key s.words v unit rule r.laid r.shown fits next)
            (λ l a b. ⊎_elim (λ held. inl (held_set s.views id v w l at (λ has. has) held))
            (λ over. inr (over_kept m key s.words v unit rule r.laid r.shown fits next l a over))
            (r.drawn l a (omega arith)))
            (own_fits m key s.words v unit rule r.laid r.shown fits next)
            (λ j u _ at_j. fits_kept m key s.words v unit rule r.laid r.shown fits next u (r.fits j u at_j))
            (apart_same s.views id v w at refl r.apart)
            (omega arith),
        (
          refl,
          fits.least,
          λ f has. subst (λ (z : F). IsFault (meaning z) n) (sym (fits.facts f has))
              (is_fault m key s.words v unit rule r.laid r.shown fits next),
        ),
      )

  -- the same, at a place and a number that are those
  pub lowers : (slots id : ℕ) (me : Me S (View F)) (unit rule word number : ℕ) → word ≡ fault_word (meaning key)
      → number ≡ packed unit rule → IsNextBad (meaning key) me.0 unit rule
      → Allows (Stands meaning key) slots id me word (λ n. min n number)
      (lowered meaning (step slots word number 0 none) me)
  lowers slots id me unit rule word number place is next =
      subst (λ (z : ℕ × ℕ). Allows (Stands meaning key) slots id me z.0 (λ n. min n z.1)
      (lowered meaning (step slots z.0 z.1 0 none) me)) (λ i. (sym place i, sym is i))
      (lowers_at slots id me unit rule next)
