-- Lists of which all are 0, or all but one.
use Rattle.std.proofs.Common.{◌≡◌, ◌≢◌, ℕ, zero, suc, ◌<◌, ◌≤◌, List, [], ◌∷◌, length, get_or, replicate, set, take}
use Rattle.std.proofs.Common.{refl, sym, ◌∙◌, subst, arith, get_or-set_other, get_or-set_same}
use mathlib.Core.Logic.{dite}
use native.Mathlib.Decide.{ℕ_discrete}

pub all_zero : (n i : ℕ) → get_or (replicate {A = ℕ} n 0) i 0 ≡ 0
all_zero zero i = refl
all_zero (suc n) zero = refl
all_zero (suc n) (suc i) = all_zero n i

pub past_end : (xs : List ℕ) (i : ℕ) → length xs ≤ i → get_or xs i 0 ≡ 0
past_end [] i over = refl
past_end (x ∷ xs) zero over = absurd (omega arith)
past_end (x ∷ xs) (suc i) over = past_end xs i (omega arith)

pub cut_zero : (n : ℕ) (xs : List ℕ) (i : ℕ) → get_or xs i 0 ≡ 0 → get_or (take n xs) i 0 ≡ 0
cut_zero zero xs i e = refl
cut_zero (suc n) [] i e = refl
cut_zero (suc n) (x ∷ xs) zero e = e
cut_zero (suc n) (x ∷ xs) (suc i) e = cut_zero n xs i e

-- where all are 0 but at most the one at p, that one is made 0
pub set_zero : (xs : List ℕ) (p i : ℕ) → ((j : ℕ) → j ≢ p → get_or xs j 0 ≡ 0) → p < length xs
    → get_or (set xs p 0) i 0 ≡ 0
set_zero xs p i others inside =
    dite (ℕ_discrete i p)
    (λ e. subst (λ (k : ℕ). get_or (set xs p 0) k 0 ≡ 0) (sym e) (get_or-set_same xs p 0 0 inside))
    (λ ne. get_or-set_other xs p i 0 0 ne ∙ others i ne)

pub none_zero : (xs : List ℕ) (p i : ℕ) → ((j : ℕ) → j ≢ p → get_or xs j 0 ≡ 0) → length xs ≤ p
    → get_or xs i 0 ≡ 0
none_zero xs p i others outside =
    dite (ℕ_discrete i p)
    (λ e. past_end xs i (omega arith))
    (λ ne. others i ne)
