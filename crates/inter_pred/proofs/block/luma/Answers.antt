use Rattle.std.proofs.Common.{rules, arith}
use Rattle.std.proofs.lemmas.Int.{to_z-of_z}
use mir.Val.{SFits}
use mir.Syntax.{w16, w32}
use Rattle.inter_pred.proofs.Joining.{luma_joined}
use Rattle.inter_pred.proofs.block.luma.Goals as goal

pub returns-clause-value : goal.returns-clause-value
returns-clause-value g c x y m n =
    let across : SFits w16 c.args.mv.x = search rules in
    let below : SFits w16 c.args.mv.y = search rules in
    let left : SFits w32 c.luma_first.result = search rules in
    let top : SFits w32 c.luma_first-2.result = search rules in
    luma_joined (g.V.RefWindow.reference_at c.args.view.now c.args.picture 0) c.args.depth c.args.block.x c.args.block.y
    x y _ _ c.args.mv.x c.args.mv.y _ _ _
    (grind (arith, to_z-of_z, c.quarter.ensures.value)) (grind (arith, to_z-of_z, c.quarter-2.ensures.value))
    (grind (arith, to_z-of_z, c.luma_first.ensures.value)) (grind (arith, to_z-of_z, c.luma_first-2.ensures.value))
    (c.interpolate.ensures.value x y m n)
