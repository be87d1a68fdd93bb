-- Numbers of a list that pass a test which holds of its first ones alone.
use Rattle.std.proofs.Common.{◌≡◌, ℕ, zero, suc, ◌+◌, ◌≤◌, Bool, true, false, List, [], ◌∷◌, length, refl, ap, ◌∙◌}
use Rattle.std.proofs.Common.{arith}
use Rattle.std.specs.Prelude.{cond}
use Rattle.std.specs.List.{count_by}
use Rattle.std.specs.List.Sorted.{IsNonDecreasing, IsPartitionPoint, IsStrictlyIncreasing}
use Rattle.std.proofs.lemmas.List.{get_or_default}
use Rattle.std.proofs.lemmas.List.Sorted.{IsNonDecreasingBy-from_all_adjacent}
use Rattle.std.proofs.lemmas.List.Sums.{sum_by-cons}

-- numbers that rise don't fall
pub rising : (xs : List ℕ) → IsStrictlyIncreasing xs → IsNonDecreasing xs
rising xs up =
    IsNonDecreasingBy-from_all_adjacent (λ x. x) xs
    (λ k d lt. omega (arith, up k lt, get_or_default xs k d 0 (omega arith), get_or_default xs (k + 1) d 0 lt))

module _ (p : ℕ → Bool) where
  -- those before the place where the test ceases to hold are counted
  pub count_to : (xs : List ℕ) (i : ℕ) → i ≤ length xs → IsPartitionPoint (λ x. p x ≡ true) (λ x. p x ≡ false) xs i
      → count_by p xs ≡ i
  count_to [] zero le point = refl
  count_to [] (suc i) le point = absurd (omega arith)
  count_to (x ∷ xs) zero le point =
      let here : p x ≡ false = point.1 0 x (omega arith) (omega arith) in
      let rest =
      count_to xs zero (omega arith)
      ((λ k d l h. absurd (omega arith)), λ k d l h. point.1 (suc k) d (omega arith) (omega arith)) in
      sum_by-cons (λ y. cond (p y) 1 0) x xs ∙ ap (λ b. cond b 1 0 + count_by p xs) here ∙ omega (arith, rest)
  count_to (x ∷ xs) (suc i) le point =
      let here : p x ≡ true = point.0 0 x (omega arith) (omega arith) in
      let rest =
      count_to xs i (omega arith) (
        (λ k d l h. point.0 (suc k) d (omega arith) (omega arith)),
        λ k d l h. point.1 (suc k) d (omega arith) (omega arith),
      ) in
      sum_by-cons (λ y. cond (p y) 1 0) x xs ∙ ap (λ b. cond b 1 0 + count_by p xs) here ∙ omega (arith, rest)
