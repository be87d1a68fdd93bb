-- The first vector that a function gives of places.
use Rattle.std.proofs.Common.{◌≡◌, ℕ, zero, suc, ◌+◌, ◌<◌, ◌≤◌, List, [], ◌∷◌, length, drop, map, get_or, Option}
use Rattle.std.proofs.Common.{Some}
use Rattle.std.proofs.Common.{None, refl, sym, ap, arith}
use Rattle.ctu_records.specs.declared.prediction.Mv.{Mv}
use Rattle.spec_motion.specs.VectorPrediction.{first_of}
use Rattle.spec_motion.specs.Vectors.{or_else}

pub first_here : {X : Type 0} (f : X → Option Mv) (k : ℕ) (mv : Mv) (xs : List X) (d : X) → k < length xs
    → f (get_or xs k d) ≡ Some mv → first_of (map f (drop k xs)) ≡ Some mv
first_here f k mv [] d lt is = absurd (omega arith)
first_here f zero mv (x ∷ xs) d lt is = ap (λ o. or_else o (first_of (map f xs))) is
first_here f (suc k) mv (x ∷ xs) d lt is = first_here f k mv xs d (omega arith) is

later : {X : Type 0} (f : X → Option Mv) (k : ℕ) (xs : List X) (d : X) → k < length xs → f (get_or xs k d) ≡ None
    → first_of (map f (drop (suc k) xs)) ≡ first_of (map f (drop k xs))
later f k [] d lt is = absurd (omega arith)
later f zero (x ∷ xs) d lt is = sym (ap (λ o. or_else o (first_of (map f xs))) is)
later f (suc k) (x ∷ xs) d lt is = later f k xs d (omega arith) is

pub first_later : {X : Type 0} (f : X → Option Mv) (k : ℕ) (xs : List X) (d : X) → k < length xs
    → f (get_or xs k d) ≡ None → first_of (map f (drop (k + 1) xs)) ≡ first_of (map f (drop k xs))
first_later f k xs d lt is = let e : k + 1 ≡ suc k = omega arith in rw e (later f k xs d lt is)

pub first_over : {X : Type 0} (f : X → Option Mv) (k : ℕ) (xs : List X) → length xs ≤ k
    → first_of (map f (drop k xs)) ≡ None
first_over f zero [] le = refl
first_over f (suc k) [] le = refl
first_over f zero (x ∷ xs) le = absurd (omega arith)
first_over f (suc k) (x ∷ xs) le = first_over f k xs (omega arith)
