-- A unit's side in places.
use Rattle.std.proofs.Common.{ℕ, ◌^◌, ◌≤◌, arith}
use Rattle.std.proofs.Math.Nat.{pow-le-pow_right}

pub few_places : (n : ℕ) → n ≤ 4 → 2 ^ n ≤ 16
few_places n le = pow-le-pow_right {n = 2} (omega arith) le
