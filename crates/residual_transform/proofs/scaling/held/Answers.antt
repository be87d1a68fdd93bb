use Rattle.std.proofs.Common.{rules, arith}
use Rattle.std.proofs.lemmas.Int.{ints, to_z-of_z}
use mir.Val.{SFits}
use mir.Syntax.{w32, w64}
use Rattle.residual_transform.proofs.scaling.held.Goals as goal

pub returns-clause-value : goal.returns-clause-value
returns-clause-value c =
    let f : SFits w64 c.args.value = search rules in
    let g : SFits w64 c.clamp.result = omega (arith, ints, c.clamp.ensures.lower_bound, c.clamp.ensures.upper_bound) in
    let h : SFits w32 c.clamp.result = omega (arith, ints, c.clamp.ensures.lower_bound, c.clamp.ensures.upper_bound) in
    rw (to_z-of_z w64 _ g, to_z-of_z w32 _ h) (rw (to_z-of_z w64 _ f) at c.clamp.ensures.value)
