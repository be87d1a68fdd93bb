use Rattle.std.proofs.Common.{◌^◌, ◌≤◌, arith}
use Rattle.std.proofs.Math.Nat.{pow-le-pow_right}
use Rattle.residual_transform.proofs.matrix.size_of.Goals as goal

pub returns-clause-some : goal.returns-clause-some
returns-clause-some c =
    let low : 2 ^ 2 ≤ 2 ^ c.args.log2 = pow-le-pow_right (omega arith) c.requires.0 in
    let high : 2 ^ c.args.log2 ≤ 2 ^ 5 = pow-le-pow_right (omega arith) c.requires.1 in
    omega (arith, low, high)

pub returns-clause-few : goal.returns-clause-few
returns-clause-few c =
    let high : 2 ^ c.args.log2 ≤ 2 ^ 5 = pow-le-pow_right (omega arith) c.requires.1 in
    omega (arith, high)
