-- Tables of what stands before each picture of a flight.
use Rattle.std.proofs.Common.{ℕ, ◌≡◌, ◌+◌, ◌<◌, List, [], ◌∷◌, ◌++◌, inl, inr, length, take, sum_by, slice_index}
use Rattle.std.proofs.Common.{arith, ap, sym, ◌∙◌}
use Rattle.std.proofs.lemmas.Bool.{cases_lt}
use Rattle.std.proofs.lemmas.List.{get_or_append_left, get_or_push}
use Rattle.flight_plan.specs.Flight.{PictureRows}

-- the table of one picture more
pub table_next : (f : PictureRows → ℕ) (ps : List PictureRows) (xs ys : List ℕ) (n v : ℕ) → length xs ≡ n
    → v ≡ sum_by f (take n ps) → ys ≡ xs ++ v ∷ []
    → ((k : ℕ) → k < n → slice_index xs k ≡ sum_by f (take k ps))
    → (k : ℕ) → k < n + 1 → slice_index ys k ≡ sum_by f (take k ps)
table_next f ps xs ys n v count at is before k h =
    rw is (elim (cases_lt k n) [
      | inl lower ↦ get_or_append_left xs (v ∷ []) _ k (omega (arith, count, lower)) ∙ before k lower
      | inr upper ↦ let same : k ≡ n = omega arith in
          get_or_push xs v _ k (omega (arith, count, same)) ∙ at ∙ ap (λ m. sum_by f (take m ps)) (sym same)
    ])
