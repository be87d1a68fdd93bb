-- Powers of two and four: how many places a square has.
use Rattle.std.proofs.Common.{ℕ, ◌^◌, ◌≤◌, arith}
use Rattle.std.proofs.Math.Nat.{one-le-pow, pow-le-pow_right}

pub few_bits : (n : ℕ) → n ≤ 16 → 2 ^ n ≤ 65536
few_bits n le = pow-le-pow_right {n = 2} (omega arith) le

pub few_items : (n : ℕ) → n ≤ 4 → 4 ^ n ≤ 256
few_items n le = pow-le-pow_right {n = 4} (omega arith) le

pub few_sides : (n : ℕ) → n ≤ 4 → 2 ^ n ≤ 16
few_sides n le = pow-le-pow_right {n = 2} (omega arith) le

pub few_sizes : (n : ℕ) → n ≤ 5 → 2 ^ n ≤ 32
few_sizes n le = pow-le-pow_right {n = 2} (omega arith) le

pub some_sizes : (n : ℕ) → 1 ≤ 2 ^ n
some_sizes n = one-le-pow n 2 (omega arith)
