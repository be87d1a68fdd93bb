-- How many columns blocks have.
use Rattle.std.proofs.Common.{ℕ, ◌^◌, ◌≤◌, arith}
use Rattle.std.proofs.Math.Nat.{pow-le-pow_right}

pub small : (log2 : ℕ) → log2 ≤ 5 → 2 ^ log2 ≤ 32
small log2 h = pow-le-pow_right (omega arith) h

pub large : (log2 : ℕ) → 2 ≤ log2 → 4 ≤ 2 ^ log2
large log2 h = pow-le-pow_right (omega arith) h
