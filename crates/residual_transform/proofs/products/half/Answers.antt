use Rattle.std.proofs.Common.{◌-◌, ◌^◌, ◌<◌, ◌≤◌, arith}
use Rattle.std.proofs.Math.Nat.{pow-le-pow_right}
use Rattle.std.proofs.lemmas.Int.{ints}
use Rattle.residual_transform.proofs.products.half.Goals as goal

pub returns-clause-high : goal.returns-clause-high
returns-clause-high c =
    let few : c.args.shift - 1 ≤ 11 = omega (arith, c.requires.shift) in
    let two : 0 < 2 = omega arith in
    let half : 2 ^ (c.args.shift - 1) ≤ 2 ^ 11 = pow-le-pow_right two few in
    omega (arith, ints, half)
