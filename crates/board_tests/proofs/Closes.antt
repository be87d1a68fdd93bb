-- What the words of a closed board are.
use Rattle.std.proofs.Common.{length, ◌≡◌, ◌<◌, ◌+◌, ◌*◌, ℕ, List, sym, ap, ◌∙◌, subst}
use Rattle.std.specs.Prelude.{slice_index}
use Rattle.progress_words.specs.Meanings.{Spot, IsData}
use Rattle.progress_words.specs.Faults.{unit_in, IsFirstFault}
use Rattle.progress_words.specs.Core.{fault_in}
use Rattle.board_tests.specs.declared.flight.Sums.{Sums}
use Rattle.board_tests.specs.Passes.{AreSums, meaning_in}
use Rattle.board_tests.specs.Sums.{place}
use Rattle.board_tests.proofs.Builds.{total_is, is_data, owned, numbered, expected_is}

module _ (b f : Sums) (same : b ≡ f) (words : List ℕ) where
  pub count_is : length words ≡ (meaning_in b).total → length words ≡ (8 * f.rows + 16) + f.rows * f.width * 2
  count_is e = subst (λ (x : Sums). length words ≡ (meaning_in x).total) same e
      ∙ total_is f.input.items f.marks.items f.rows f.width f.some_width

  pub fault_is : IsFirstFault (meaning_in b) (fault_in (meaning_in b) words)
      → IsFirstFault (meaning_in f) (fault_in (meaning_in f) words)
  fault_is e = subst (λ (x : Sums). IsFirstFault (meaning_in x) (fault_in (meaning_in x) words)) same e

  pub words_are : ((w : ℕ) → IsData (meaning_in b) w
      → (meaning_in b).number ((meaning_in b).owner w).line ((meaning_in b).owner w).unit
      < unit_in (fault_in (meaning_in b) words) → slice_index words w ≡ (meaning_in b).expected w)
      → AreSums f words
  words_are all l k j row_in unit_inside small before =
      let p : ℕ = place f.rows f.width l k j in
      let found = subst (λ (x : Sums). (w : ℕ) → IsData (meaning_in x) w
      → (meaning_in x).number ((meaning_in x).owner w).line ((meaning_in x).owner w).unit
      < unit_in (fault_in (meaning_in x) words) → slice_index words w ≡ (meaning_in x).expected w) same all in
      let o = owned f.input.items f.marks.items f.rows f.width f.some_width l k j unit_inside small in
      let n = ap (λ (s : Spot). (meaning_in f).number s.line s.unit) o
      ∙ numbered f.input.items f.marks.items f.rows f.width f.some_width l k in
      found p (is_data f.input.items f.marks.items f.rows f.width f.some_width l k j row_in unit_inside small)
      (subst (λ (x : ℕ). x < unit_in (fault_in (meaning_in f) words)) (sym n) before)
      ∙ expected_is f.input.items f.marks.items f.rows f.width f.some_width l k j unit_inside small
