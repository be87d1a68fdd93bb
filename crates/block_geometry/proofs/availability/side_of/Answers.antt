use Rattle.std.proofs.Common.{◌^◌, ◌≤◌, arith}
use Rattle.std.proofs.Math.Nat.{pow-le-pow_right}
use Rattle.block_geometry.proofs.availability.side_of.Goals as goal

pub returns-clause-small : goal.returns-clause-small
returns-clause-small c =
    let few : 2 ^ c.args.size ≤ 16 = pow-le-pow_right {n = 2} (omega arith) c.requires in
    omega (arith, few)
