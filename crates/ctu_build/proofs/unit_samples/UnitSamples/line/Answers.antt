use Rattle.std.proofs.Common.{rules, ◌∙◌, arith}
use Rattle.ctu_build.proofs.Cells.{line_held, line_part}
use Rattle.ctu_build.proofs.unit_samples.UnitSamples.line.Goals as goal

pub returns-clause-value : goal.returns-clause-value
returns-clause-value c = λ j h.
    line_part _ c.args.c c.args.line _ _ j c.cell-first.ensures (omega (arith, h))
    ∙ line_held _ _ c.self.inside.lines c.args.c j c.args.line _ c.self.invariant (search rules) (search rules)
    c.requires.c h c.requires.line
