-- The neighbours of a block by their numbers.
use Rattle.std.proofs.Common.{◌≡◌, ℕ, zero, suc, ◌+◌, ◌-◌, ◌*◌, ◌<◌, ◌≤◌, List, [], ◌∷◌, Option, Some, None, length}
use Rattle.std.proofs.Common.{get_or, take, refl, ◌∙◌, arith}
use Rattle.std.proofs.lemmas.Bool.Decides.{nat_tests}
use Rattle.std.proofs.lemmas.List.FromFn.{get_or-map-range_with_len, length-map-range_with_len}
use Rattle.spec_intra_prediction.specs.Neighbours.{at, beside, known_beside}
use Rattle.spec_intra_prediction.specs.Substitution.{first_available, following, sample_or}

pub beside_count : (known : ℕ → ℕ → Option ℕ) (n x y : ℕ) → length (beside known n x y) ≡ 4 * n + 1
unfolding beside
beside_count known n x y = length-map-range_with_len (known_beside known n x y) 0 (4 * n + 1)

pub beside_at : (known : ℕ → ℕ → Option ℕ) (n x y k : ℕ) → k < 4 * n + 1
    → get_or (beside known n x y) k None ≡ known_beside known n x y k
unfolding beside
beside_at known n x y k lt =
    get_or-map-range_with_len (known_beside known n x y) 0 (4 * n + 1) k k None lt (omega arith)

pub beside_left : (known : ℕ → ℕ → Option ℕ) (n x y k : ℕ) → k < 2 * n + 1
    → get_or (beside known n x y) k None ≡ known x (y + (2 * n - k))
beside_left known n x y k lt = beside_at known n x y k (omega arith) ∙ grind (arith, nat_tests)

pub beside_above : (known : ℕ → ℕ → Option ℕ) (n x y k : ℕ) → 2 * n + 1 ≤ k → k < 4 * n + 1
    → get_or (beside known n x y) k None ≡ known (x + (k - 2 * n)) y
beside_above known n x y k le lt = beside_at known n x y k lt ∙ grind (arith, nat_tests)

-- the first that is known
pub first_is : (otherwise u v : ℕ) (xs : List (Option ℕ)) → u < length xs → ((j : ℕ) → j < u → get_or xs j None ≡ None)
    → get_or xs u None ≡ Some v → first_available otherwise xs ≡ v
unfolding first_available
first_is otherwise u v [] lt none is = absurd (omega (arith, lt))
first_is otherwise zero v (x ∷ xs) lt none is = rw is refl
first_is otherwise (suc u) v (x ∷ xs) lt none is =
    let e : x ≡ None = none 0 (omega arith) in
    rw e (first_is otherwise u v xs (omega (arith, lt)) (λ j h. none (suc j) (omega (arith, h))) is)

-- each is what is known of it, or as the one before it
pub follows : (former : ℕ) (edge : List ℕ) (xs : List (Option ℕ)) → length xs ≤ length edge
    → ((j : ℕ) → j < length xs → at edge j ≡ sample_or (get_or xs j None) (at (former ∷ edge) j))
    → take (length xs) edge ≡ following former xs
unfolding following
follows former edge [] le told = refl
follows former [] (x ∷ xs) le told = absurd (omega (arith, le))
follows former (e ∷ edge) (x ∷ xs) le told =
    let first : e ≡ sample_or x former = told 0 (omega arith) in
    let rest : take (length xs) edge ≡ following e xs =
    follows e edge xs (omega (arith, le)) (λ j h. told (suc j) (omega (arith, h))) in
    rw (rest, first) refl
