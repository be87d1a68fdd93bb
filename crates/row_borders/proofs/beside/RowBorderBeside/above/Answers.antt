use Rattle.std.proofs.Common.{◌+◌, ap, sym, ◌∙◌}
use Rattle.row_borders.specs.Borders.{Bordering, line_above}
use Rattle.row_borders.proofs.Parts.{above_is}
use Rattle.row_borders.proofs.beside.RowBorderBeside.above.Goals as goal

pub returns-clause-samples : goal.returns-clause-samples
returns-clause-samples c = λ k less.
    c.part.ensures.samples k less
    ∙ ap (λ (b : Bordering). line_above b c.args.part.c (c.args.first + k)) c.self.view_is
    ∙ sym (above_is c.args.self.now c.args.part (c.args.first + k) c.requires.part c.requires.lower.0)
