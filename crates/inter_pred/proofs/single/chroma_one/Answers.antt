use Rattle.std.proofs.Common.{rules, ◌+◌, ap, sym, refl, ◌∙◌, arith}
use Rattle.std.proofs.lemmas.Int.{to_z-of_z}
use mir.Val.{SFits}
use mir.Syntax.{w16, w32}
use Rattle.spec_inter_prediction.specs.Chroma.{chroma_sample}
use Rattle.spec_inter_prediction.specs.Weighting.{default_one}
use Rattle.inter_pred.proofs.Joining.{chroma_joined}
use Rattle.inter_pred.proofs.single.chroma_one.Goals as goal

pub returns-then-is_copied-clause-value : goal.returns-then-is_copied-clause-value
returns-then-is_copied-clause-value g c x y m n =
    let across : SFits w16 c.args.mv.x = search rules in
    let below : SFits w16 c.args.mv.y = search rules in
    let left : SFits w32 c.chroma_first.result = search rules in
    let top : SFits w32 c.chroma_first-then-is_copied.result = search rules in
    let copied = c.if-is_copied.ensures in
    let reference = g.V.RefWindow.reference_at c.args.view.now c.args.picture c.args.component in
    let e =
    chroma_joined reference 8 c.args.block.x c.args.block.y x y 0 0 c.args.mv.x c.args.mv.y _ _ _
    (grind (arith, to_z-of_z, c.eighth.ensures.value, copied.across refl))
    (grind (arith, to_z-of_z, c.eighth-2.ensures.value, copied.down refl))
    (grind (arith, to_z-of_z, c.chroma_first.ensures.value))
    (grind (arith, to_z-of_z, c.chroma_first-then-is_copied.ensures.value)) refl in
    rw (copied.depth refl)
    (c.whole_samples.ensures.value x y m n ∙ ap (default_one 8) e
    ∙ sym (copied.weights refl
    (chroma_sample 8 reference c.args.mv.x c.args.mv.y (c.args.block.x + x) (c.args.block.y + y))))
