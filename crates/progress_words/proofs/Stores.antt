-- The two kinds of store keep the rule.
use Rattle.std.proofs.Common.{◌≡◌, ◌≢◌, ℕ, ◌+◌, ◌<◌, ◌≤◌, List, get_or, set, Some, true, refl, sym, ap, ◌∙◌, subst}
use Rattle.std.proofs.Common.{⊎_elim, inl, inr, arith, length-set, get_or-set_other, get_or-set_same}
use mathlib.Core.Logic.{dite}
use mathlib.Core.Option.{none}
use native.Mathlib.Decide.{ℕ_discrete}
use Rattle.atomic_table.specs.Table.{Me, step, keeps, Allows}
use Rattle.progress_words.specs.declared.view.View.{View}
use Rattle.progress_words.specs.Meanings.{Meaning, Spot, IsData, IsLaid, count_word, ticket_word, fault_word}
use Rattle.progress_words.specs.Meanings.{first_data_word}
use Rattle.progress_words.specs.Faults.{unit_in, IsFault}
use Rattle.progress_words.specs.Views.{seen_of, writing, counting, AllSound}
use Rattle.progress_words.specs.Rule.{AreWritten, IsHolder, Fits, IsShown, IsOver, Stands, IsNext, IsNextWord}
use Rattle.progress_words.specs.Core.{count_in, ticket_in, fault_in, AreMet, IsReached}
use Rattle.progress_words.proofs.Reached.{reached_same, reached_count}
use Rattle.progress_words.specs.Steps.{wrote, counted}
use Rattle.progress_words.proofs.Counts.{put_same, put_other}
use Rattle.progress_words.proofs.Held.{at_inside, same_job, held_set, apart_same}
use Rattle.progress_words.proofs.Loads.{line_is}
use Rattle.progress_words.proofs.Changes.{changed}

-- the words after a data word was set to what is expected of it
module _ (m : Meaning) (words : List ℕ) (w x : ℕ) (laid : IsLaid m) (shown : IsShown m words) (here : IsData m w)
    (is : x ≡ m.expected w) where
  abbrev after : List ℕ
  after = set words w x

  low : (y : ℕ) → y < first_data_word m → get_or after y 0 ≡ get_or words y 0
  low y le = let h = here.0 in get_or-set_other words w y x 0 (λ e. omega arith)

  count_low : (l : ℕ) → l < m.lines → count_in after l ≡ count_in words l
  count_low l inside = low (count_word l) (omega arith)

  ticket_low : ticket_in m after ≡ ticket_in m words
  ticket_low = low (ticket_word m) (omega arith)

  fault_low : fault_in m after ≡ fault_in m words
  fault_low = low (fault_word m) (omega arith)

  met_after : (needs : List (ℕ × ℕ)) → AreMet m (count_in words) needs → AreMet m (count_in after) needs
  met_after needs met k d inside = let p = met k d inside in let same = count_low (get_or needs k d).0 p.0 in
      (p.0, omega arith)

  over_after : (l : ℕ) → l < m.lines → IsOver m words l → IsOver m after l
  over_after l inside over =
      ⊎_elim (λ full. inl (count_low l inside ∙ full))
      (λ stopped. inr (subst (λ (c : ℕ × ℕ). unit_in c.0 ≤ m.number l c.1) (λ i. (
        sym fault_low i,
        sym (count_low l
            inside) i,
      )) stopped)) over

  expected_after : (y : ℕ) → get_or words y 0 ≡ m.expected y → get_or after y 0 ≡ m.expected y
  expected_after y old =
      dite (ℕ_discrete y w)
      (λ e. subst (λ (z : ℕ). get_or after z 0 ≡ m.expected z) (sym e) (let h = here.1 in let room = shown.room in
      get_or-set_same words w x 0 (omega arith) ∙ is))
      (λ ne. get_or-set_other words w y x 0 ne ∙ old)

  expected_here : get_or after w 0 ≡ m.expected w
  expected_here = let h = here.1 in let room = shown.room in get_or-set_same words w x 0 (omega arith) ∙ is

  shown_after : IsShown m after
  shown_after = record {
    reached = reached_same m words shown.reached after low;
    room = length-set words w x ∙ shown.room;
    counts = λ l inside. let same = count_low l inside in let old = shown.counts l inside in omega arith;
    sound = λ l k inside below. let same = count_low l inside in shown.sound l k inside (omega arith);
    met = λ l k inside below. let same = count_low l inside in
        met_after (m.needs l k) (shown.met l k inside (omega arith));
    words_are = λ y data_ below. let o = laid.inside y data_ in let same = count_low (m.owner y).line o.0 in
        expected_after y (shown.words_are y data_ (omega arith));
    idle = λ l inside late. let same = count_low l inside in let same' = ticket_low in
        same ∙ shown.idle l inside (omega arith);
    fault = subst (λ (z : ℕ). IsFault m z) (sym fault_low) shown.fault;
    small = let a = fault_low in let b = shown.small in omega arith;
  }

  written_after : (l n : ℕ) → l < m.lines → AreWritten m words l n → AreWritten m after l n
  written_after l n inside old y data_ line unit index = let same = count_low l inside in
      expected_after y (old y data_ line (unit ∙ same) index)

  fits_after : {F : Type 0} (key : F) (v : View F) → Fits m key words v → Fits m key after v
  fits_after key v fits = record {
    facts = fits.facts;
    seen = λ l inside. let same = count_low l inside in let old = fits.seen l inside in omega arith;
    least = let same = fault_low in let old = fits.least in omega arith;
    job = λ l has. let h = fits.job l has in let b = h.drawn in let c = h.count in
        let same = count_low l h.line in let same' = ticket_low in
        record {
          line = h.line;
          drawn = omega arith;
          count = omega arith;
          written = written_after l v.written h.line h.written;
        };
    none = λ has. let same' = ticket_low in let old = fits.none has in omega arith;
    spent = fits.spent;
    splits = fits.splits;
  }

  one_more : {F : Type 0} (v : View F) → IsHolder m words v (m.owner w).line → IsNextWord m v w
      → AreWritten m after (m.owner w).line (v.written + 1)
  one_more v holder next y data_ line unit index =
      let same = count_low (m.owner w).line holder.line in
      dite (ℕ_discrete (m.owner y).index v.written)
      (λ e.
      let here_ : m.owner y ≡ m.owner w = let spot : Spot ≡ Spot = refl in
      λ i. record {
        line = line i;
        unit = (unit ∙ (same ∙ (holder.count ∙ sym next.unit))) i;
        index = (e
            ∙ sym next.index) i;
      } in
      subst (λ (z : ℕ). get_or after z 0 ≡ m.expected z) (sym (laid.once y w data_ here here_)) expected_here)
      (λ ne. expected_after y (holder.written y data_ line (unit ∙ same) (omega arith)))

module _ {F S : Type 0} (meaning : F → Meaning) (key : F) where
  pub stores_word : (slots id : ℕ) (me : Me S (View F)) (w x : ℕ) → IsNextWord (meaning key) me.0 w
      → x ≡ (meaning key).expected w
      → Allows (Stands meaning key) slots id me w (λ _. x) (λ _. wrote meaning (step slots w x 0 none) me x)
  stores_word slots id me w x next is s r long at small =
      let m : Meaning = meaning key in let v : View F = me.0 in let u : View F = writing v in let here = next.word in
      let fits = r.fits id v at in let holder = fits.job (m.owner w).line next.next.job in
      let kept = fits_after m s.words w x r.laid r.shown here is key v fits in
      let tick = ticket_low m s.words w x r.laid r.shown here is in let before = r.ticket in (
        u,
        keeps,
        tt,
        changed meaning key s r (set s.words w x) id v u at (record {
          facts = refl;
          opens = refl;
          splits = refl;
          joins = refl;
        }) (shown_after m s.words w x r.laid r.shown here is)
            (λ l a b. ⊎_elim (λ held. inl (held_set s.views id v u l at (λ has. has) held))
            (λ over. inr (over_after m s.words w x r.laid r.shown here is l a over)) (r.drawn l a (omega arith)))
            (record {
              facts = kept.facts;
              seen = kept.seen;
              least = kept.least;
              job = λ l has. let h = kept.job l has in
                  let same : (m.owner w).line ≡ l = same_job _ _ (sym next.next.job ∙ has) in
                  record {
                    line = h.line;
                    drawn = h.drawn;
                    count = h.count;
                    written = subst (λ (z : ℕ). AreWritten m (set s.words w x) z (v.written + 1)) same
                        (one_more m s.words w x r.laid r.shown here is v holder next);
                  };
              none = kept.none;
              spent = kept.spent;
              splits = kept.splits;
            })
            (λ j y _ at_j. fits_after m s.words w x r.laid r.shown here is key y (r.fits j y at_j))
            (apart_same s.views id v u at refl r.apart)
            (omega arith),
        refl,
      )

-- the words after a line's count went up by 1
module _ {F : Type 0} (m : Meaning) (key : F) (words : List ℕ) (l : ℕ) (v : View F) (laid : IsLaid m)
    (shown : IsShown m words) (fits : Fits m key words v) (next : IsNext m v l) (all : v.written ≡ m.size l
    (seen_of v l)) where
  abbrev n : ℕ
  n = seen_of v l

  abbrev counts_after : List ℕ
  counts_after = set words (count_word l) (n + 1)

  holder : IsHolder m words v l
  holder = fits.job l next.job

  here_count : count_in counts_after l ≡ n + 1
  here_count = let a = holder.line in let b = laid.room in let c = shown.room in
      get_or-set_same words (count_word l) (n + 1) 0 (omega arith)

  other_word : (y : ℕ) → y ≢ count_word l → get_or counts_after y 0 ≡ get_or words y 0
  other_word y ne = get_or-set_other words (count_word l) y (n + 1) 0 ne

  other_count : (y : ℕ) → y ≢ l → count_in counts_after y ≡ count_in words y
  other_count y ne = other_word (count_word y) (λ e. ne (omega arith))

  ticket_same : ticket_in m counts_after ≡ ticket_in m words
  ticket_same = other_word (ticket_word m) (λ e. let a = holder.line in omega arith)

  fault_same : fault_in m counts_after ≡ fault_in m words
  fault_same = other_word (fault_word m) (λ e. let a = holder.line in omega arith)

  word_same : (w : ℕ) → IsData m w → get_or counts_after w 0 ≡ get_or words w 0
  word_same w data_ = let d = data_.0 in other_word w (λ e. let a = holder.line in omega arith)

  -- the count of each line, where the line's own is told
  by_line : (P : ℕ → ℕ → Type 0) → ((y : ℕ) → y ≢ l → P y (count_in words y)) → P l (n + 1) → (y : ℕ)
      → P y (count_in counts_after y)
  by_line P others own y = dite (ℕ_discrete y l)
      (λ e. subst (λ (z : ℕ). P z (count_in counts_after z)) (sym e) (subst (λ (z : ℕ). P l z) (sym here_count) own))
      (λ ne. subst (λ (z : ℕ). P y z) (sym (other_count y ne)) (others y ne))

  grows : (y : ℕ) → count_in words y ≤ count_in counts_after y
  grows = by_line (λ y c. count_in words y ≤ c) (λ y ne. omega arith) (let b = holder.count in omega arith)

  met_grown : (needs : List (ℕ × ℕ)) (count : ℕ → ℕ) → ((y : ℕ) → y < m.lines → count y ≤ count_in words y)
      → AreMet m count needs → AreMet m (count_in counts_after) needs
  met_grown needs count below met k d inside = let p = met k d inside in let a = below (get_or needs k d).0 p.0 in
      let b = grows (get_or needs k d).0 in (p.0, omega arith)

  sound_below : (k : ℕ) → k < n + 1 → m.sound l k ≡ true
  sound_below k below = let c = holder.count in
      dite (ℕ_discrete k n) (λ e. subst (λ (z : ℕ). m.sound l z ≡ true) (sym e) next.sound)
      (λ ne. shown.sound l k holder.line (omega arith))

  met_below : (k : ℕ) → k < n + 1 → AreMet m (count_in counts_after) (m.needs l k)
  met_below k below = let c = holder.count in
      dite (ℕ_discrete k n)
      (λ e. subst (λ (z : ℕ). AreMet m (count_in counts_after) (m.needs l z)) (sym e)
      (met_grown (m.needs l n) (seen_of v) fits.seen next.met))
      (λ ne. met_grown (m.needs l k) (count_in words) (λ y' _. omega arith) (shown.met l k holder.line (omega arith)))

  expected_below : (w : ℕ) → IsData m w → (m.owner w).line ≡ l → (m.owner w).unit < n + 1
      → get_or words w 0 ≡ m.expected w
  expected_below w data_ e below =
      let c = holder.count in let o = laid.inside w data_ in
      dite (ℕ_discrete (m.owner w).unit n)
      (λ e'. let small : (m.owner w).index < m.size l n = subst (λ (z : ℕ
      × ℕ). (m.owner w).index < m.size z.0 z.1) (λ i. (e i, e' i)) o.2 in
      holder.written w data_ e (e' ∙ sym c) (omega arith))
      (λ ne. let c' : count_in words (m.owner w).line ≡ n = ap (λ (z : ℕ). count_in words z) e ∙ c in
      shown.words_are w data_ (omega arith))

  counted_shown : IsShown m counts_after
  counted_shown = record {
    reached = let a = laid.room in let b = shown.room in let c = holder.count in let d = next.left in
        subst (λ (x : ℕ). IsReached m (set words (count_word l) (x + 1))) holder.count
        (reached_count m words shown.reached l holder.line (omega arith) (laid.ticketed l holder.line).0 holder.drawn
        (omega arith)
        (subst (λ (x : ℕ). m.sound l x ≡ true) (sym holder.count) next.sound)
        (subst (λ (x : ℕ). AreMet m (count_in words) (m.needs l x)) (sym holder.count)
        (λ k e at. let p = next.met k e at in let s = fits.seen (get_or (m.needs l n) k e).0 p.0 in
        (p.0, omega arith))));
    room = length-set words (count_word l) (n + 1) ∙ shown.room;
    counts = by_line (λ y c. y < m.lines → c ≤ m.width y) (λ y ne. shown.counts y)
        (λ inside. let b = next.left in omega arith);
    sound = λ y k inside below. by_line (λ z c. z < m.lines → k < c → m.sound z k ≡ true)
        (λ z ne. shown.sound z k) (λ _. sound_below k) y inside below;
    met = λ y k inside below. by_line (λ z c. z < m.lines → k < c → AreMet m (count_in counts_after) (m.needs z k))
        (λ z ne in_ below_. met_grown (m.needs z k) (count_in words)
        (λ y' _. omega arith) (shown.met z k in_ below_)) (λ _. met_below k) y inside below;
    words_are = λ w data_ below. word_same w data_ ∙ by_line
        (λ z c. (m.owner w).line ≡ z → (m.owner w).unit < c → get_or words w 0 ≡ m.expected w)
        (λ z ne e below_. shown.words_are w data_ (subst (λ (y : ℕ). (m.owner w).unit < count_in words y) (sym e)
        below_)) (λ e. expected_below w data_ e) (m.owner w).line refl below;
    idle = λ y inside late. let d = holder.drawn in let t = ticket_same in
        let ne : y ≢ l = λ e. (let e' = ap m.ticket_of e in omega arith) in let a = other_count y ne in
        a ∙ shown.idle y inside (omega arith);
    fault = subst (λ (z : ℕ). IsFault m z) (sym fault_same) shown.fault;
    small = let a = fault_same in let b = shown.small in omega arith;
  }

  -- a line that is over, where another one's count went up
  over_kept : (y : ℕ) → y ≢ l → IsOver m words y → IsOver m counts_after y
  over_kept y ne over =
      ⊎_elim (λ full. inl (other_count y ne ∙ full))
      (λ stopped. inr (subst (λ (c : ℕ × ℕ). unit_in c.0 ≤ m.number y c.1) (λ i. (
        sym fault_same i,
        sym (other_count y
            ne) i,
      )) stopped)) over

  -- a view that doesn't hold the line
  others_fit : (u : View F) → u.job ≢ Some l → Fits m key words u → Fits m key counts_after u
  others_fit u free old = record {
    facts = old.facts;
    seen = λ y inside. let a = old.seen y inside in let b = grows y in omega arith;
    least = let a = old.least in let b = fault_same in omega arith;
    job = λ y has. let h = old.job y has in let ne : y ≢ l = λ e. free (has ∙ ap (λ (z : ℕ). Some z) e) in
        let a = other_count y ne in let b = ticket_same in let c = h.drawn in let d = h.count in
        record {
          line = h.line;
          drawn = omega arith;
          count = omega arith;
          written = λ w data_ line unit index. word_same w data_ ∙ h.written w data_ line (unit ∙ a) index;
        };
    none = λ has. let a = old.none has in let b = ticket_same in omega arith;
    spent = old.spent;
    splits = old.splits;
  }

  own_fits : Fits m key counts_after (counting v l (n + 1))
  own_fits = record {
    facts = fits.facts;
    seen = by_line (λ y c. y < m.lines → seen_of (counting v l (n + 1)) y ≤ c)
        (λ y ne inside. let b = put_other v.seen l (n + 1) y ne in let c = fits.seen y inside in omega arith)
        (λ _. let b = put_same v.seen l (n + 1) in omega arith);
    least = let a = fits.least in let b = fault_same in omega arith;
    job = λ y has. let is : l ≡ y = same_job l y (sym next.job ∙ has) in
        subst (λ (z : ℕ). IsHolder m counts_after (counting v l (n + 1)) z) is
        (let a = here_count in let b = put_same v.seen l (n + 1) in let t = ticket_same in let d = holder.drawn in
        record {
          line = holder.line;
          drawn = omega arith;
          count = omega arith;
          written = λ w data_ line unit index. absurd (omega arith);
        });
    none = λ has. let a = fits.none has in let b = ticket_same in omega arith;
    spent = fits.spent;
    splits = fits.splits;
  }

module _ {F S : Type 0} (meaning : F → Meaning) (key : F) where
  pub stores_line : (slots id : ℕ) (me : Me S (View F)) (l : ℕ) → IsNext (meaning key) me.0 l
      → me.0.written ≡ (meaning key).size l (seen_of me.0 l)
      → Allows (Stands meaning key) slots id me (count_word l) (λ _. seen_of me.0 l + 1)
      (λ _. counted meaning (step slots (count_word l) (seen_of me.0 l + 1) 0 none) me (seen_of me.0 l + 1))
  stores_line slots id me l next all s r long at small =
      let m : Meaning = meaning key in let v : View F = me.0 in let n : ℕ = seen_of v l + 1 in
      let w : View F = counting v l n in let fits = r.fits id v at in
      let left : Me S (View F) = (w, me.1) in let told : ℕ → Me S (View F) = λ x. (counting v x n, me.1) in
      let tick = ticket_same m key s.words l v r.laid r.shown fits next all in let before = r.ticket in (
        w,
        keeps,
        tt,
        changed meaning key s r (set s.words (count_word l) n) id v w at (record {
          facts = refl;
          opens = refl;
          splits = refl;
          joins = refl;
        }) (counted_shown m key s.words l v r.laid r.shown fits next all)
            (λ y a b. dite (ℕ_discrete y l)
            (λ e. inl (id, (w, (at_inside s.views id v w at, next.job ∙ ap (λ (z : ℕ). Some z) (sym e)))))
            (λ ne. ⊎_elim (λ held. inl (held_set s.views id v w y at (λ has. has) held))
            (λ over. inr (over_kept m key s.words l v r.laid r.shown fits next all y ne over))
            (r.drawn y a (omega arith))))
            (own_fits m key s.words l v r.laid r.shown fits next all)
            (λ j u other at_j. others_fit m key s.words l v r.laid r.shown fits next all u
            (λ has. other (r.apart j id l u v at_j at has next.job)) (r.fits j u at_j))
            (apart_same s.views id v w at refl r.apart)
            (omega arith),
        λ j also_. subst
            (λ (x : ℕ). (left ≡ told x) × ((f : F) → v.facts ≡ Some f → AllSound (meaning f) x n))
            (line_is l j (count_word l) refl also_) (
              refl,
              λ f is k below. subst (λ (x : F). (meaning x).sound l k ≡ true) (sym (fits.facts f is))
                  (sound_below m key s.words l v r.laid r.shown fits next all k below),
            ),
      )

  -- the same, at a place and a number that are those
  pub stores_line_at : (slots id : ℕ) (me : Me S (View F)) (l n word : ℕ) → n ≡ seen_of me.0 l → word ≡ count_word l
      → IsNext (meaning key) me.0 l → me.0.written ≡ (meaning key).size l (seen_of me.0 l)
      → Allows (Stands meaning key) slots id me word (λ _. n + 1)
      (λ _. counted meaning (step slots word (n + 1) 0 none) me (n + 1))
  stores_line_at slots id me l n word is place next all =
      subst (λ (x : ℕ × ℕ). Allows (Stands meaning key) slots id me x.0 (λ _. x.1 + 1)
      (λ _. counted meaning (step slots x.0 (x.1 + 1) 0 none) me (x.1 + 1))) (λ i. (sym place i, sym is i))
      (stores_line slots id me l next all)
