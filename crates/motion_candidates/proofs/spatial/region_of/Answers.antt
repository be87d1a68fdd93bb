use Rattle.std.proofs.Common.{◌≤◌, ◌^◌, sym, arith}
use Rattle.std.proofs.Math.Nat.{div-eq_of_lt, pow-le-pow_right}
use Rattle.motion_candidates.proofs.spatial.region_of.Goals as goal

pub returns-else-shift-lt8 : goal.returns-else-shift-lt8
returns-else-shift-lt8 c =
    let le : 2 ^ 8 ≤ 2 ^ c.args.shift = pow-le-pow_right (omega arith) {i = 8} (omega arith) in
    sym (div-eq_of_lt (omega arith))
