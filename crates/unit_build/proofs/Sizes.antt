-- A picture's size in units and in places.
use Rattle.std.proofs.Common.{◌≡◌, ℕ, ◌+◌, ◌-◌, ◌*◌, ◌<◌, ◌≤◌, arith}
use Rattle.std.proofs.Math.Nat.{mul-le-mul, mul-le-mul_left}
use Rattle.unit_build.specs.Parts.{IsRoom}

-- a unit's first column is one of the picture's
pub inside : (k s w across column : ℕ) → 1 ≤ k → column < w → s * (w - 1) < across → k * s * column < k * across
inside k s w across column some below needed =
    let le : s * column ≤ s * (w - 1) = mul-le-mul_left s (omega arith) in
    let more : k * (s * column + 1) ≤ k * across = mul-le-mul_left k (omega (arith, le, needed)) in
    let e : k * (s * column + 1) ≡ k * s * column + k = grind arith in
    omega (arith, more, e, some)

-- what there is room for in a part
pub room_is : (c k s w across down column y : ℕ) → c < 3 → 2 ≤ k → k ≤ 4 → 1 ≤ s → s ≤ 16 → s * (w - 1) < across
    → across ≤ 2048 → down ≤ 2048 → column < w
    → IsRoom (record { c = c; side = k * s; x = k * s * column; y = y; width = k * across; height = k * down })
room_is c k s w across down column y lt least most some small needed columns lines below =
    let side : k * s ≤ 4 * 16 = mul-le-mul most small in
    let k_some : 1 ≤ k = omega arith in
    let one : 1 * 1 ≤ k * s = mul-le-mul k_some some in
    let width : k * across ≤ 4 * 2048 = mul-le-mul most columns in
    let height : k * down ≤ 4 * 2048 = mul-le-mul most lines in
    record {
      component = lt;
      some = omega (arith, one);
      small = omega (arith, side);
      inside = inside k s w across column (omega arith) below needed;
      columns = omega (arith, width);
      lines = omega (arith, height);
    }
