-- Pictures that are taken off the front of a flight.
use Rattle.std.proofs.Common.{◌≡◌, ℕ, zero, suc, ◌+◌, ◌<◌, List, [], ◌∷◌, ◌++◌, length, take, drop, refl, ap, ◌∙◌}
use Rattle.std.proofs.Common.{arith}
use Rattle.std.specs.Prelude.{slice_index_or}
use Rattle.std.specs.List.{remove}

-- one more of the first
pub first_then : {X : Type 0} (xs : List X) (k : ℕ) (x : X) → k < length xs → x ≡ slice_index_or (drop k xs) 0 x
    → take k xs ++ x ∷ [] ≡ take (k + 1) xs
first_then [] k x less is = absurd (omega (arith, less))
first_then (y ∷ xs) zero x less is = ap (λ z. z ∷ []) is
first_then (y ∷ xs) (suc k) x less is =
    let next : suc (k + 1) ≡ suc k + 1 = omega arith in
    ap (λ zs. y ∷ zs) (first_then xs k x (omega (arith, less)) is) ∙ ap (λ n. take n (y ∷ xs)) next

-- those behind it
pub left_then : {X : Type 0} (xs : List X) (k : ℕ) → k < length xs → remove (drop k xs) 0 ≡ drop (k + 1) xs
left_then [] k less = absurd (omega (arith, less))
left_then (y ∷ xs) zero less = refl
left_then (y ∷ xs) (suc k) less =
    let next : suc (k + 1) ≡ suc k + 1 = omega arith in
    left_then xs k (omega (arith, less)) ∙ ap (λ n. drop n (y ∷ xs)) next
