-- The greatest samples of bit depths.
use Rattle.std.proofs.Common.{ℕ, ◌-◌, ◌^◌, ◌<◌, ◌≤◌, arith}
use Rattle.std.proofs.Math.Nat.{pow-le-pow_right}
use Rattle.deblock.specs.Samples.{IsDepth}

pub power_few : (n m : ℕ) → n ≤ m → 2 ^ n ≤ 2 ^ m
power_few n m le = let two : 0 < 2 = omega arith in pow-le-pow_right two le

pub depth_few : (depth : ℕ) → IsDepth depth → 2 ^ depth - 1 ≤ 16383
depth_few depth is = let p = power_few depth 14 is.greatest in omega (arith, p)
