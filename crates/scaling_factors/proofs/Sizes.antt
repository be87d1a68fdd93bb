-- The sides of blocks.
use Rattle.std.proofs.Common.{◌≡◌, ℕ, ◌+◌, ◌-◌, ◌/◌, ◌^◌, ◌<◌, ◌≤◌, subst, arith}
use Rattle.std.proofs.Math.Nat.{pow-le-pow_right}
use Rattle.std.proofs.lemmas.Nat.{shr_below}

pub small : (log2 : ℕ) → log2 ≤ 5 → 2 ^ log2 ≤ 32
small log2 h = pow-le-pow_right (omega arith) h

pub large : (log2 : ℕ) → 2 ≤ log2 → 4 ≤ 2 ^ log2
large log2 h = pow-le-pow_right (omega arith) h

-- a list of 8x8 factors is spread over a block
pub eighth_inside : (log2 place : ℕ) → 3 ≤ log2 → place < 2 ^ log2 → place / 2 ^ (log2 - 3) < 8
eighth_inside log2 place least lt =
    let e : log2 ≡ 3 + (log2 - 3) = omega arith in
    shr_below place 3 (log2 - 3) (subst (λ (n : ℕ). place < 2 ^ n) e lt)
