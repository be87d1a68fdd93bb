-- What the planar prediction sums up.
use Rattle.std.proofs.Common.{◌≡◌, ℕ, ◌+◌, ◌-◌, ◌*◌, ◌/◌, ◌^◌, List, ap, arith}
use Rattle.spec_intra_prediction.specs.Neighbours.{left_at, above_at}
use Rattle.spec_intra_prediction.specs.PlanarDc.{planar}

regrouped : (a b c d n k : ℕ) → (a + b + (c + d) + n) / k ≡ (a + b + c + d + n) / k
regrouped a b c d n k = let e : a + b + (c + d) + n ≡ a + b + c + d + n = omega arith in ap (λ s. s / k) e

pub planar_is : (log2 n x y : ℕ) (p : List ℕ) → n ≡ 2 ^ log2 →
    ((n - 1 - x) * left_at n p y + (x + 1) * above_at n p n + ((n - 1 - y) * above_at n p x + (y + 1) * left_at n p n)
    + n)
    / 2 ^ (log2 + 1)
    ≡ planar log2 p x y
unfolding planar
planar_is log2 n x y p e = rw e (regrouped _ _ _ _ _ _)
