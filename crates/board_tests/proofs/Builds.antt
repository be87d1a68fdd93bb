-- What a unit's steps ask, and the values that they give.
use Rattle.std.proofs.Common.{◌≡◌, ◌⊎◌, ℕ, zero, suc, ◌+◌, ◌-◌, ◌*◌, ◌%◌, ◌^◌, ◌<◌, ◌≤◌, List, min, get_or, Some}
use Rattle.std.proofs.Common.{true}
use Rattle.std.proofs.Common.{refl, sym, ap, ◌∙◌, subst, inl, inr, arith, mod-eq_of_lt, nat_lt, nat_eq}
use Rattle.std.proofs.Math.Nat.{mod-lt}
use Rattle.std.proofs.lemmas.Bool.Decides.{nat_tests}
use Rattle.progress_words.specs.declared.view.View.{View}
use Rattle.progress_words.specs.Meanings.{Spot, IsData}
use Rattle.progress_words.specs.Faults.{unit_in}
use Rattle.progress_words.specs.Views.{seen_of, writing, counting, AllSound, HasEnded}
use Rattle.progress_words.specs.Rule.{IsNext, IsNextWord, IsNextBad}
use Rattle.progress_words.specs.Passes.{IsSeen}
use Rattle.progress_words.proofs.Held.{same_job}
use Rattle.board_tests.specs.Sums.{value, left_of, above_of, word_of, place, meaning_of, sound_units, fed_units}
use Rattle.board_tests.specs.Sums.{fed_by}
use Rattle.board_tests.specs.Sums.{rule_if}
use Rattle.board_tests.specs.Lawful.{units_are}
use Rattle.board_tests.specs.Steps.{IsAt, IsReady}
use Rattle.board_tests.proofs.Layouts.{owner_is, place_inside}

fed_more : (w n k : ℕ) → min (k + 2) w ≤ n → k < w → k < fed_by w n
fed_more w n k enough inside = grind (arith, nat_tests)

-- the sum of a unit, of equal parts
pub sums_up : (x l a x' l' a' s : ℕ) → x ≡ x' → l ≡ l' → a ≡ a' → s ≡ ((x' + l') % 2 ^ 64 + a') % 2 ^ 64
    → ((x + l) % 2 ^ 64 + a) % 2 ^ 64 ≡ s
sums_up x l a x' l' a' s e0 e e' is = (λ i. ((e0 i + e i) % 2 ^ 64 + e' i) % 2 ^ 64) ∙ sym is

module _ (xs marks : List ℕ) (rows w : ℕ) (some_width : 0 < w) where
  -- the word of a place
  pub expected_is : (l k j : ℕ) → k < w → j < 2
      → (meaning_of xs marks rows w).expected (place rows w l k j)
      ≡ word_of xs w (let o : Spot = record { line = l; unit = k; index = j } in o)
  unfolding meaning_of
  expected_is l k j inside small = ap (word_of xs w) (owner_is rows w some_width l k j inside small)

  pub is_data : (l k j : ℕ) → l < rows → k < w → j < 2 → IsData (meaning_of xs marks rows w) (place rows w l k j)
  unfolding meaning_of
  is_data l k j row_in inside small = (omega arith, place_inside rows w some_width l k j row_in inside small)

  pub owned : (l k j : ℕ) → k < w → j < 2
      → (meaning_of xs marks rows w).owner (place rows w l k j)
      ≡ (let o : Spot = record { line = l; unit = k; index = j } in o)
  unfolding meaning_of
  owned l k j inside small = owner_is rows w some_width l k j inside small

  pub numbered : (l k : ℕ) → (meaning_of xs marks rows w).number l k ≡ l * w + k
  unfolding meaning_of
  numbered l k = refl

  pub sized : (l k : ℕ) → (meaning_of xs marks rows w).size l k ≡ 2
  unfolding meaning_of
  sized l k = refl

  pub lines_is : (meaning_of xs marks rows w).lines ≡ rows
  unfolding meaning_of
  lines_is = refl

  pub total_is : (meaning_of xs marks rows w).total ≡ (8 * rows + 16) + rows * w * 2
  unfolding meaning_of
  total_is = refl

  pub line_is : (t : ℕ) → (meaning_of xs marks rows w).line_at t ≡ t
  unfolding meaning_of
  line_is t = refl

  sound_is : (l k : ℕ) → k < get_or marks l 0 → k < fed_units marks w l → (meaning_of xs marks rows w).sound l k ≡ true
  unfolding meaning_of
  sound_is l k before fed = let e = units_are marks w l in let less : k < sound_units marks w l = omega arith in
      grind (arith, nat_tests)

  bad_is : (l k : ℕ) → l < rows → get_or marks l 0 ≡ k → k < fed_units marks w l
      → (meaning_of xs marks rows w).bad l k ≡ Some 7
  unfolding meaning_of
  bad_is l k inside mark fed =
      let a : nat_lt l rows ≡ true = grind (arith, nat_tests) in
      let b : nat_eq k (get_or marks l 0) ≡ true = grind (arith, nat_tests) in
      let c : nat_lt k (fed_units marks w l) ≡ true = grind (arith, nat_tests) in
      λ i. rule_if (Rattle.std.proofs.Common.◌&&◌ (a i) (Rattle.std.proofs.Common.◌&&◌ (b i) (c i)))

  -- where the units of the row above that are seen are sound, the unit has what it needs
  pub fed_is : (l k n : ℕ) → 0 < l → k < w → AllSound (meaning_of xs marks rows w) (l - 1) n → min (k + 2) w ≤ n
      → k < fed_units marks w l
  unfolding meaning_of fed_units
  fed_is zero k n some_row inside all enough = absurd (omega arith)
  fed_is (suc l) k n some_row inside all enough =
      let e : suc l - 1 ≡ l = omega arith in
      let t = all (min (k + 2) w - 1) (omega arith) in
      let u : nat_lt (min (k + 2) w - 1) (sound_units marks w l) ≡ true =
      subst (λ (x : ℕ). nat_lt (min (k + 2) w - 1) (sound_units marks w x) ≡ true) e t in
      let less : min (k + 2) w - 1 < sound_units marks w l = grind (arith, nat_tests) in
      fed_more w (sound_units marks w l) k (omega arith) inside

  pub fed_first : (k : ℕ) → k < w → k < fed_units marks w 0
  unfolding fed_units
  fed_first k inside = inside

  module _ {F : Type 0} (v : View F) where
    pub is_seen : (l k j : ℕ) → l < rows → k < w → j < 2 → k < seen_of v l
        → IsSeen (meaning_of xs marks rows w) v (place rows w l k j)
    is_seen l k j row_in inside small seen = (
      is_data l k j row_in inside small,
      subst (λ (o : Spot). o.unit < seen_of v o.line) (sym (owned l k j inside small)) seen,
    )

    pub is_next : (l k n : ℕ) → l < rows → k < w → IsAt v l k n → IsReady xs marks rows w v l k
        → k < get_or marks l 0 → k < fed_units marks w l → IsNext (meaning_of xs marks rows w) v l
    unfolding meaning_of
    is_next l k n row_in inside at ready before fed =
        let c = at.count in
        record {
          line = row_in;
          job = at.job;
          left = omega arith;
          sound = subst (λ (x : ℕ). (meaning_of xs marks rows w).sound l x ≡ true) (sym c) (sound_is l k before fed);
          met = subst (λ (x : ℕ). IsReady xs marks rows w v l x) (sym c) ready;
        }

    pub is_next_bad : (l k n : ℕ) → l < rows → k < w → IsAt v l k n → IsReady xs marks rows w v l k
        → get_or marks l 0 ≡ k → k < fed_units marks w l → (number : ℕ) → number ≡ l * w + k
        → IsNextBad (meaning_of xs marks rows w) v number 7
    unfolding meaning_of
    is_next_bad l k n row_in inside at ready mark fed number is =
        let c = at.count in
        record {
          line = l;
          inside = row_in;
          job = at.job;
          left = omega arith;
          number = is ∙ ap (λ (x : ℕ). l * w + x) (sym c);
          bad = subst (λ (x : ℕ). (meaning_of xs marks rows w).bad l x ≡ Some 7) (sym c)
              (bad_is l k row_in mark fed);
          met = subst (λ (x : ℕ). IsReady xs marks rows w v l x) (sym c) ready;
        }

    pub is_next_word : (l k j : ℕ) → l < rows → k < w → j < 2 → IsAt v l k j → IsReady xs marks rows w v l k
        → k < get_or marks l 0 → k < fed_units marks w l
        → IsNextWord (meaning_of xs marks rows w) v (place rows w l k j)
    is_next_word l k j row_in inside small at ready before fed =
        let o = sym (owned l k j inside small) in
        record {
          word = is_data l k j row_in inside small;
          next = subst (λ (x : Spot). IsNext (meaning_of xs marks rows w) v x.line) o
              (is_next l k j row_in inside at ready before fed);
          unit = subst (λ (x : Spot). x.unit ≡ seen_of v x.line) o (sym at.count);
          index = subst (λ (x : Spot). x.index ≡ v.written) o (sym at.written);
        }

    -- the need of a unit that isn't in the first row
    pub ready_is : (l k : ℕ) → 0 < l → l ≤ rows → min (k + 2) w ≤ seen_of v (l - 1) → IsReady xs marks rows w v l k
    unfolding meaning_of
    ready_is zero k some_row inside seen i d at = absurd (omega arith)
    ready_is (suc l) k some_row inside seen zero d at = let e : l ≡ suc l - 1 = omega arith in
        (omega arith, subst (λ (x : ℕ). min (k + 2) w ≤ seen_of v x) (sym e) seen)
    ready_is (suc l) k some_row inside seen (suc i) d at = absurd (omega arith)

    pub ready_first : (k : ℕ) → IsReady xs marks rows w v 0 k
    ready_first k i d at = absurd (omega arith)

    -- what is seen counted of the row above
    pub seen_above : (l k : ℕ) → 0 < l → IsReady xs marks rows w v l k → min (k + 2) w ≤ seen_of v (l - 1)
    unfolding meaning_of
    seen_above zero k some_row ready = absurd (omega arith)
    seen_above (suc l) k some_row ready = let e : l ≡ suc l - 1 = omega arith in
        subst (λ (x : ℕ). min (k + 2) w ≤ seen_of v x) e (ready 0 (0, 0) (omega arith)).1

    -- a word of the next unit is written, and then the unit is counted
    pub one_more : (l k n : ℕ) → IsAt v l k n → IsAt (writing v) l k (n + 1)
    one_more l k n at = record { job = at.job; count = at.count; written = ap (λ (x : ℕ). x + 1) at.written }

    pub counted_at : (l k n : ℕ) → IsAt v l k n → IsAt (counting v l (seen_of v l + 1)) l (k + 1) 0
    counted_at l k n at = record {
      job = at.job;
      count = Rattle.progress_words.proofs.Counts.put_same v.seen l (seen_of v l + 1)
          ∙ ap (λ (x : ℕ). x + 1) at.count;
      written = refl;
    }

    -- a line that is full, and one whose next unit isn't before a fault that was seen
    pub full_at : (l n : ℕ) → IsAt v l w n → HasEnded (meaning_of xs marks rows w) v
    unfolding meaning_of
    full_at l n at j has = let is : l ≡ j = same_job l j (sym at.job ∙ has) in
        inl (subst (λ (x : ℕ). w ≤ seen_of v x) is (let c = at.count in omega arith))

    pub stopped_at : (l k n : ℕ) → IsAt v l k n → unit_in v.least < l * w + k
        → HasEnded (meaning_of xs marks rows w) v
    unfolding meaning_of
    stopped_at l k n at below j has =
        let is : l ≡ j = same_job l j (sym at.job ∙ has) in let c = at.count in
        inr (subst (λ (x : ℕ). unit_in v.least ≤ x * w + seen_of v x) is (omega arith))

  pub above_is : (l k : ℕ) → 0 < l → above_of xs w l k ≡ value xs w (l - 1) (min (k + 1) (w - 1))
  above_is zero k some_row = absurd (omega arith)
  above_is (suc l) k some_row =
      ap (λ (x : ℕ). value xs w x (min (k + 1) (w - 1))) (let e : l ≡ suc l - 1 = omega arith in e)

  -- the value of a unit from what it reads
  pub value_is : (l k : ℕ)
      → value xs w l k ≡ ((get_or xs (l * w + k) 0 + left_of xs w l k) % 2 ^ 64 + above_of xs w l k) % 2 ^ 64
  unfolding value
  value_is zero zero = refl
  value_is zero (suc k) = refl
  value_is (suc l) zero = refl
  value_is (suc l) (suc k) = refl

  pub value_small : (l k : ℕ) → value xs w l k < 2 ^ 64
  value_small l k =
      let e = value_is l k in
      let s : ℕ = (get_or xs (l * w + k) 0 + left_of xs w l k) % 2 ^ 64 + above_of xs w l k in
      let m = mod-lt s {m = 18446744073709551616} (omega arith) in
      subst (λ (x : ℕ). x < 2 ^ 64) (sym e) m

  -- the first word is the value
  pub first_is : (l k : ℕ)
      → word_of xs w (let o : Spot = record { line = l; unit = k; index = 0 } in o) ≡ value xs w l k
  first_is l k = let small = value_small l k in
      mod-eq_of_lt (omega arith) ∙ (let z : value xs w l k + 0 ≡ value xs w l k = omega arith in z)
