use Rattle.std.proofs.Common.{rules, ◌-◌, ◌*◌, ◌^◌, pos, ◌+ℤ◌, arith}
use Rattle.std.proofs.lemmas.Int.{to_z-of_z}
use mir.Val.{SFits}
use mir.Syntax.{w32}
use Rattle.inter_pred.specs.Passes.{IsRaised}
use Rattle.inter_pred.proofs.Laying.{part_laid, part_all}
use Rattle.inter_pred.proofs.window.lay_line.Goals as goal

pub returns-clause-value : goal.returns-clause-value
returns-clause-value g c =
    let down : SFits w32 c.args.y = search rules in
    part_laid c.args.to c.args.from.width _ _ _ (λ n. 2 ^ (14 - c.args.depth)
    * g.V.RefWindow.reference_at c.args.view.now c.args.from.picture c.args.from.component
    (c.args.from.x +ℤ pos n) c.args.y)
    (search rules) (search rules) (omega arith)
    (λ i lt. let t = c.gather_line.ensures.value i (search rules) in grind (arith, to_z-of_z, t))

pub returns-clause-raised : goal.returns-clause-raised
returns-clause-raised g c = part_all IsRaised _ _ _ _ (search rules) c.gather_line.ensures.raised
