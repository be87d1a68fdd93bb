use Rattle.std.proofs.Common.{◌^◌, ◌≤◌, arith}
use Rattle.std.specs.Int.Signed.{shr_z}
use Rattle.std.proofs.Math.Nat.{pow-le-pow_right}
use Rattle.std.proofs.lemmas.Int.{ints, to_z-of_z}
use mir.Val.{SFits}
use mir.Syntax.{w32}
use Rattle.residual_transform.proofs.Bounds.{shift_within}
use Rattle.residual_transform.proofs.products.shifted.Goals as goal

pub returns-clause-small : goal.returns-clause-small
returns-clause-small c =
    let p : 2 ^ 6 ≤ 2 ^ c.args.shift = pow-le-pow_right (omega arith) c.requires.some_shift in
    let b = shift_within c.args.value (2 ^ c.args.shift) p c.requires.low c.requires.high in
    let f : SFits w32 c.args.value = omega (arith, ints) in
    let g : SFits w32 (shr_z c.args.value (2 ^ c.args.shift)) = omega (arith, ints, b) in
    rw (to_z-of_z w32 _ f, to_z-of_z w32 _ g) b
