use Rattle.std.proofs.Common.{ap, sym, ◌∙◌}
use Rattle.row_borders.specs.Borders.{Bordering, column_left}
use Rattle.row_borders.proofs.Parts.{left_is}
use Rattle.row_borders.proofs.beside.RowBorderBeside.left.Goals as goal

pub returns : goal.returns
returns c =
    c.sample.ensures
    ∙ ap (λ (b : Bordering). column_left b c.args.part.c c.args.line) c.self.view_is
    ∙ sym (left_is c.args.self.now c.args.part c.args.line c.requires.part c.requires.right)
