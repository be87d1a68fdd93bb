-- A draw keeps the rule.
use Rattle.std.proofs.Common.{◌≡◌, ◌≢◌, ℕ, ◌+◌, ◌%◌, ◌^◌, ◌<◌, ◌≤◌, List, [], ◌∷◌, length, get_or, set, Option}
use Rattle.std.proofs.Common.{Some, None, Bool, true, false, refl, sym, ap, ◌∙◌, subst, ⊎_elim, inl, inr, arith}
use Rattle.std.proofs.Common.{length-set, get_or-set_other, get_or-set_same, mod-eq_of_lt}
use mathlib.Core.Logic.{dite}
use mathlib.Core.Option.{some, none}
use native.Mathlib.Decide.{ℕ_discrete, dec_le}
use lib.ListN.{get_elem?}
use Rattle.atomic_table.specs.Table.{State, Me, step, keeps, Allows}
use Rattle.progress_words.specs.declared.view.View.{View}
use Rattle.progress_words.specs.Meanings.{Meaning, IsData, IsLaid, count_word, ticket_word, fault_word}
use Rattle.progress_words.specs.Faults.{unit_in, IsFault}
use Rattle.progress_words.specs.Core.{count_in, ticket_in, fault_in}
use Rattle.progress_words.specs.Counts.{total}
use Rattle.progress_words.specs.Views.{seen_of, holding, finding_none, is_ended, ended_by, HasEnded}
use Rattle.progress_words.specs.Rule.{IsHolder, Fits, IsShown, IsOver, Stands}
use Rattle.progress_words.proofs.Ends.{over_of}
use Rattle.progress_words.proofs.Reached.{reached_draw}
use Rattle.progress_words.specs.Steps.{drew}
use Rattle.progress_words.proofs.Held.{at_inside, same_job, held_set, held_or, apart_same, apart_set}
use Rattle.progress_words.proofs.Changes.{changed}

-- each view ends once
few_ended : {F : Type 0} (vs : List (View F)) → total is_ended vs ≤ length vs
unfolding total
few_ended [] = omega arith
few_ended (v ∷ vs) = let rest = few_ended vs in let one = at_most v.facts v.none in omega arith
  where
    at_most : {F : Type 0} (o : Option F) (b : Bool) → ended_by o b ≤ 1
    at_most None b = omega arith
    at_most (Some f) true = omega arith
    at_most (Some f) false = omega arith

-- the words after the ticket went up by 1
module _ (m : Meaning) (words : List ℕ) (laid : IsLaid m) (shown : IsShown m words) where
  abbrev t : ℕ
  t = ticket_in m words

  abbrev after : List ℕ
  after = set words (ticket_word m) (t + 1)

  ticket_is : ticket_in m after ≡ t + 1
  ticket_is = let a = laid.room in let b = shown.room in get_or-set_same words (ticket_word m) (t + 1) 0 (omega arith)

  word_same : (w : ℕ) → w ≢ ticket_word m → get_or after w 0 ≡ get_or words w 0
  word_same w ne = get_or-set_other words (ticket_word m) w (t + 1) 0 ne

  line_same : (l : ℕ) → l < m.lines → count_in after l ≡ count_in words l
  line_same l inside = word_same (count_word l) (λ e. omega arith)

  fault_same : fault_in m after ≡ fault_in m words
  fault_same = word_same (fault_word m) (λ e. omega arith)

  data_same : (w : ℕ) → IsData m w → get_or after w 0 ≡ get_or words w 0
  data_same w here = let a = here.0 in word_same w (λ e. omega arith)

  drawn_shown : IsShown m after
  drawn_shown = record {
    reached = let a = laid.room in let b = shown.room in reached_draw m words shown.reached (omega arith);
    room = length-set words (ticket_word m) (t + 1) ∙ shown.room;
    counts = λ l inside. let a = line_same l inside in let b = shown.counts l inside in omega arith;
    sound = λ l k inside below. let a = line_same l inside in shown.sound l k inside (omega arith);
    met = λ l k inside below j d at. let a = line_same l inside in
        let p = shown.met l k inside (omega arith) j d at in let b = line_same (get_or (m.needs l k) j d).0 p.0 in
        (p.0, omega arith);
    words_are = λ w here below. let o = laid.inside w here in let a = line_same (m.owner w).line o.0 in
        data_same w here ∙ shown.words_are w here (omega arith);
    idle = λ l inside late. let a = ticket_is in let b = line_same l inside in b ∙ shown.idle l inside (omega arith);
    fault = subst (λ (z : ℕ). IsFault m z) (sym fault_same) shown.fault;
    small = let a = fault_same in let b = shown.small in omega arith;
  }

  over_kept : (l : ℕ) → l < m.lines → IsOver m words l → IsOver m after l
  over_kept l inside over =
      ⊎_elim (λ full. inl (line_same l inside ∙ full))
      (λ stopped. inr (subst (λ (c : ℕ × ℕ). unit_in c.0 ≤ m.number l c.1) (λ i. (
        sym fault_same i,
        sym (line_same l
            inside) i,
      )) stopped)) over

  module _ {F : Type 0} (key : F) (v : View F) (fits : Fits m key words v) where
    job_kept : (l : ℕ) → v.job ≡ Some l → IsHolder m after v l
    job_kept l has = let h = fits.job l has in let i = h.line in let a = line_same l i in let b = ticket_is in
        let c = h.drawn in let d = h.count in
        record {
          line = h.line;
          drawn = omega arith;
          count = omega arith;
          written = λ w here line unit index. data_same w here ∙ h.written w here line (unit ∙ a) index;
        }

    fits_kept : Fits m key after v
    fits_kept = record {
      facts = fits.facts;
      seen = λ l inside. let a = line_same l inside in let b = fits.seen l inside in omega arith;
      least = let a = fault_same in let b = fits.least in omega arith;
      job = job_kept;
      none = λ has. let a = fits.none has in let b = ticket_is in omega arith;
      spent = fits.spent;
      splits = fits.splits;
    }

    -- the line with the ticket's number is not yet begun
    untouched : t < m.lines → (count_in words (m.line_at t) ≡ 0) × (seen_of v (m.line_at t) ≡ 0)
    untouched inside = let l = laid.drawn t inside in let same = l.1 in
        let a = shown.idle (m.line_at t) l.0 (omega arith) in
        let b = fits.seen (m.line_at t) l.0 in (a, omega arith)

    fits_holding : t < m.lines → (f : F) → v.facts ≡ Some f → Fits m key after (holding v (m.line_at t))
    fits_holding inside f alive = record {
      facts = fits.facts;
      seen = fits_kept.seen;
      least = fits_kept.least;
      job = λ l has. let is : m.line_at t ≡ l = same_job (m.line_at t) l has in
          subst (λ (z : ℕ). IsHolder m after (holding v (m.line_at t)) z) is
          (let u = untouched inside in let u0 = u.0 in let u1 = u.1 in let there = laid.drawn t inside in
          let a = line_same (m.line_at t) there.0 in let back = there.1 in
          let b = ticket_is in record {
            line = there.0;
            drawn = omega arith;
            count = omega arith;
            written = λ w here line unit index. absurd (omega arith);
          });
      none = fits_kept.none;
      spent = λ dead. absurd (no_both f (sym alive ∙ dead));
      splits = fits.splits;
    }
      where
        is_some : Option F → Type 0
        is_some None = ⊥
        is_some (Some x) = Unit {0}

        no_both : (x : F) → Some x ≡ None → ⊥
        no_both x e = subst is_some e tt

    fits_none : m.lines ≤ t → Fits m key after (finding_none v)
    fits_none late = record {
      facts = fits.facts;
      seen = fits_kept.seen;
      least = fits_kept.least;
      job = λ l has. let h = job_kept l has in record {
        line = h.line;
        drawn = h.drawn;
        count = h.count;
        written = h.written;
      };
      none = λ has. let b = ticket_is in omega arith;
      spent = fits.spent;
      splits = fits.splits;
    }

module _ {F S : Type 0} (meaning : F → Meaning) (key : F) where
  -- the state after a draw that leaves the view w
  abbrev after_draw : State S (View F) → ℕ → View F → State S (View F)
  after_draw s id w = record {
    words = set s.words (ticket_word (meaning key)) (ticket_in (meaning key) s.words + 1);
    homes = s.homes;
    views = set s.views id w;
  }

  draws_job : (s : State S (View F)) → Stands meaning key s → (id : ℕ) (v : View F)
      → get_elem? s.views id ≡ some v → v.facts ≡ Some key → v.none ≡ false → HasEnded (meaning key) v
      → ticket_in (meaning key) s.words < (meaning key).lines
      → Stands meaning key (after_draw s id (holding v ((meaning key).line_at (ticket_in (meaning key) s.words))))
  draws_job s r id v at alive fresh ended inside =
      let m : Meaning = meaning key in let n : ℕ = ticket_in m s.words in let w : View F = holding v (m.line_at n) in
      let fits = r.fits id v at in
      let tick = ticket_is m s.words r.laid r.shown in let before = r.ticket in let there = r.laid.drawn n inside in
      changed meaning key s r (set s.words (ticket_word m) (n + 1)) id v w at (record {
        facts = refl;
        opens = refl;
        splits = refl;
        joins = refl;
      }) (drawn_shown m s.words r.laid r.shown)
      (λ l a b. dite (ℕ_discrete l (m.line_at n))
      (λ e. inl (id, (w, (at_inside s.views id v w at, ap (λ (z : ℕ). Some z) (sym e)))))
      (λ ne. ⊎_elim
      (λ held. ⊎_elim (λ still. inl still)
      (λ mine. inr (over_kept m s.words r.laid r.shown l a (over_of m key s.words r.shown v fits ended l mine)))
      (held_or s.views id v w l at held))
      (λ over. inr (over_kept m s.words r.laid r.shown l a over))
      (r.drawn l a (let back = (r.laid.ticketed l a).1 in let other : m.ticket_of l ≢ n =
      λ e. ne (sym back ∙ ap m.line_at e) in omega arith))))
      (fits_holding m s.words r.laid r.shown key v fits inside key alive)
      (λ j u _ at_j. fits_kept m s.words r.laid r.shown key u (r.fits j u at_j))
      (apart_set s.views id w r.apart (λ j l u other at_j has_w has_u. let is = same_job (m.line_at n) l has_w in
      let d = ((r.fits j u at_j).job l has_u).drawn in let e = ap m.ticket_of is in let back = there.1 in omega arith))
      (omega arith)

  draws_none : (s : State S (View F)) → Stands meaning key s → (id : ℕ) (v : View F)
      → get_elem? s.views id ≡ some v → v.facts ≡ Some key → v.none ≡ false
      → (meaning key).lines ≤ ticket_in (meaning key) s.words
      → Stands meaning key (after_draw s id (finding_none v))
  draws_none s r id v at alive fresh late =
      let m : Meaning = meaning key in let n : ℕ = ticket_in m s.words in let w : View F = finding_none v in
      let fits = r.fits id v at in
      let tick = ticket_is m s.words r.laid r.shown in let before = r.ticket in
      let was : is_ended v ≡ 0 = λ i. ended_by (alive i) (fresh i) in
      let now : is_ended w ≡ 1 = λ i. ended_by (alive i) true in
      changed meaning key s r (set s.words (ticket_word m) (n + 1)) id v w at (record {
        facts = refl;
        opens = refl;
        splits = refl;
        joins = refl;
      }) (drawn_shown m s.words r.laid r.shown)
      (λ l a b. ⊎_elim (λ held. inl (held_set s.views id v w l at (λ has. has) held))
      (λ over. inr (over_kept m s.words r.laid r.shown l a over))
      (r.drawn l a (let there = (r.laid.ticketed l a).0 in omega arith)))
      (fits_none m s.words r.laid r.shown key v fits late)
      (λ j u _ at_j. fits_kept m s.words r.laid r.shown key u (r.fits j u at_j))
      (apart_same s.views id v w at refl r.apart)
      (omega arith)

  pub draws : (slots id : ℕ) (me : Me S (View F)) (ticket : ℕ) → ticket ≡ ticket_word (meaning key)
      → me.0.facts ≡ Some key → me.0.none ≡ false → HasEnded (meaning key) me.0
      → Allows (Stands meaning key) slots id me ticket (λ n. (n + 1) % 2 ^ 64) (drew meaning
      (step slots ticket 1 0 none) me)
  draws slots id me ticket is alive fresh ended s r long at small =
      let m : Meaning = meaning key in let v : View F = me.0 in let n : ℕ = ticket_in m s.words in
      let fits = r.fits id v at in
      let bound = r.ticket in let few = few_ended s.views in let made = r.made in let splits = r.few in
      let big = r.laid.small in let more = r.laid.room in
      let fits64 : (n + 1) % 2 ^ 64 ≡ n + 1 = mod-eq_of_lt (omega arith) in
      let here : get_or s.words ticket 0 ≡ n = ap (λ (z : ℕ). get_or s.words z 0) is in
      let words_is : set s.words (ticket_word m) (n + 1) ≡ set s.words ticket
      ((get_or s.words ticket 0 + 1) % 2 ^ 64) = λ i. set s.words (sym is i) ((sym fits64
      ∙ ap (λ (z : ℕ). (z + 1) % 2 ^ 64) (sym here)) i) in
      dite (dec_le m.lines n)
      (λ late.
      let w : View F = finding_none v in (
        w,
        keeps,
        tt,
        subst (λ (ws : List ℕ). Stands meaning key (record {
          words = ws;
          homes = s.homes;
          views = set s.views id w;
        })) words_is (draws_none s r id v at alive fresh late),
        (
          λ f has below. absurd (let same = ap (λ (x : F). (meaning x).lines) (fits.facts f has) in
              omega arith),
          λ f has _. refl,
        ),
      ))
      (λ early.
      let inside : n < m.lines = omega arith in let l : ℕ = m.line_at n in let w : View F = holding v l in
      let left : Me S (View F) = (w, me.1) in let after_ : ℕ → Me S (View F) = λ x. (holding v x, me.1) in
      let told : (left ≡ after_ l) × (l < m.lines) × (seen_of v l ≡ 0) =
      (refl, (r.laid.drawn n inside).0, (untouched m s.words r.laid r.shown key v fits inside).1) in (
        w,
        keeps,
        tt,
        subst (λ (ws : List ℕ). Stands meaning key (record {
          words = ws;
          homes = s.homes;
          views = set s.views id w;
        })) words_is (draws_job s r id v at alive fresh ended inside),
        (
          λ f has below. subst (λ (x : F × ℕ). (left ≡ after_ ((meaning x.0).line_at x.1))
              × ((meaning x.0).line_at x.1 < (meaning x.0).lines) × (seen_of v ((meaning x.0).line_at x.1) ≡ 0))
              (λ i. (sym (fits.facts f has) i, sym here i)) told,
          λ f has below. absurd (let same = ap (λ (x : F). (meaning x).lines) (fits.facts f has) in omega arith),
        ),
      ))
