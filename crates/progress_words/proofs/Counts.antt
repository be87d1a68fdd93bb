-- Lists of counts, and sums over views of which one is replaced.
use Rattle.std.proofs.Common.{◌≡◌, ◌≢◌, ℕ, zero, suc, ◌+◌, ◌≤◌, List, [], ◌∷◌, ◌++◌, get_or, set, max, refl, sym}
use Rattle.std.proofs.Common.{ap, arith}
use mathlib.Core.Option.{some, some-ne-none, some-injective}
use lib.ListN.{get_elem?}
use Rattle.progress_words.specs.Counts.{put, greater, total}

pub put_same : (xs : List ℕ) (l n : ℕ) → get_or (put xs l n) l 0 ≡ n
unfolding put
put_same [] zero n = refl
put_same [] (suc l) n = put_same [] l n
put_same (x ∷ xs) zero n = refl
put_same (x ∷ xs) (suc l) n = put_same xs l n

pub put_other : (xs : List ℕ) (l n j : ℕ) → j ≢ l → get_or (put xs l n) j 0 ≡ get_or xs j 0
unfolding put
put_other [] zero n zero h = absurd (h refl)
put_other [] zero n (suc j) h = refl
put_other [] (suc l) n zero h = refl
put_other [] (suc l) n (suc j) h = put_other [] l n j (λ e. h (ap suc e))
put_other (x ∷ xs) zero n zero h = absurd (h refl)
put_other (x ∷ xs) zero n (suc j) h = refl
put_other (x ∷ xs) (suc l) n zero h = refl
put_other (x ∷ xs) (suc l) n (suc j) h = put_other xs l n j (λ e. h (ap suc e))

pub greater_at : (xs ys : List ℕ) (l : ℕ) → get_or (greater xs ys) l 0 ≡ max (get_or xs l 0) (get_or ys l 0)
unfolding greater
greater_at [] ys l = omega arith
greater_at (x ∷ xs) [] l = omega arith
greater_at (x ∷ xs) (y ∷ ys) zero = refl
greater_at (x ∷ xs) (y ∷ ys) (suc l) = greater_at xs ys l

pub at_read : (xs : List ℕ) (i x : ℕ) → get_elem? xs i ≡ some x → get_or xs i 0 ≡ x
at_read [] i x e = absurd (some-ne-none x (sym e))
at_read (y ∷ ys) zero x e = some-injective y x e
at_read (y ∷ ys) (suc i) x e = at_read ys i x e

module _ {X : Type 0} (f : X → ℕ) where
  pub total_set : (xs : List X) (i : ℕ) (v w : X) → get_elem? xs i ≡ some v
      → total f (set xs i w) + f v ≡ total f xs + f w
  unfolding total
  total_set [] i v w e = absurd (some-ne-none v (sym e))
  total_set (x ∷ xs) zero v w e = let same : f x ≡ f v = ap f (some-injective x v e) in omega arith
  total_set (x ∷ xs) (suc i) v w e = let rest = total_set xs i v w e in omega arith

  pub total_snoc : (xs : List X) (v : X) → total f (xs ++ v ∷ []) ≡ total f xs + f v
  unfolding total
  total_snoc [] v = omega arith
  total_snoc (x ∷ xs) v = let rest = total_snoc xs v in omega arith

  pub total_at : (xs : List X) (i : ℕ) (v : X) → get_elem? xs i ≡ some v → f v ≤ total f xs
  unfolding total
  total_at [] i v e = absurd (some-ne-none v (sym e))
  total_at (x ∷ xs) zero v e = let same : f x ≡ f v = ap f (some-injective x v e) in omega arith
  total_at (x ∷ xs) (suc i) v e = let rest = total_at xs i v e in omega arith

  pub total_two : (xs : List X) (i j : ℕ) (v u : X) → i ≢ j → get_elem? xs i ≡ some v → get_elem? xs j ≡ some u
      → f v + f u ≤ total f xs
  unfolding total
  total_two [] i j v u n e e' = absurd (some-ne-none v (sym e))
  total_two (x ∷ xs) zero zero v u n e e' = absurd (n refl)
  total_two (x ∷ xs) zero (suc j) v u n e e' = let same : f x ≡ f v = ap f (some-injective x v e) in
      let rest = total_at xs j u e' in omega arith
  total_two (x ∷ xs) (suc i) zero v u n e e' = let same : f x ≡ f u = ap f (some-injective x u e') in
      let rest = total_at xs i v e in omega arith
  total_two (x ∷ xs) (suc i) (suc j) v u n e e' = let rest = total_two xs i j v u (λ q. n (ap suc q)) e e' in
      omega arith
