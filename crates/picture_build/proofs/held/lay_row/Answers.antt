use Rattle.std.proofs.Common.{rules, pos, ◌+ℤ◌, arith}
use Rattle.std.proofs.lemmas.Int.{to_z-of_z}
use Rattle.std.proofs.lemmas.List.Elements.{All-from_get_or}
use mir.Val.{SFits}
use mir.Syntax.{w32}
use Rattle.inter_pred.specs.Passes.{IsByte}
use Rattle.inter_pred.proofs.Laying.{part_laid, part_all}
use Rattle.picture_build.specs.Referring.{held_sample}
use Rattle.picture_build.proofs.held.lay_row.Goals as goal

pub returns-clause-value : goal.returns-clause-value
returns-clause-value c =
    let down : SFits w32 c.args.y = search rules in
    let across : SFits w32 c.args.from.x = search rules in
    part_laid c.args.to c.args.from.width _ _ _
    (λ n. held_sample c.args.planes.now c.args.c c.args.greatest (c.args.from.x +ℤ pos n) c.args.y)
    (search rules) (search rules) (omega arith)
    (λ i lt. let t = c.clamped_row.ensures i (search rules) in grind (arith, to_z-of_z, t))

pub returns-clause-bytes : goal.returns-clause-bytes
returns-clause-bytes c small old =
    let down : SFits w32 c.args.y = search rules in
    let across : SFits w32 c.args.from.x = search rules in
    part_all IsByte _ _ _ _ old (All-from_get_or IsByte c.clamped_row.new.out 0 (λ k lt.
    let t = c.clamped_row.ensures k (search rules) in
    let s = small (c.args.from.x +ℤ pos k) c.args.y in
    grind (arith, to_z-of_z, t, s)))
