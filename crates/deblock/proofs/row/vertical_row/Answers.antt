use Rattle.std.proofs.Common.{arith}
use Rattle.deblock.specs.Windows.{columns_across}
use Rattle.deblock.proofs.Flat.{inside_holds}
use Rattle.deblock.proofs.Laying.{cond_by}
use Rattle.deblock.proofs.Rows.{row_lines}
use Rattle.deblock.proofs.row.vertical_row.Goals as goal

pub returns-clause-value : goal.returns-clause-value
returns-clause-value g c = λ x y a b d.
    let row = c.args.row.now in
    let value = rw c.columns_across.ensures at c.filter_row.ensures.value in
    cond_by _ _ _ _ _ (value x y (inside_holds (columns_across row.width row.first row.end) x y (omega arith) a b d))
    (row_lines row x y c.requires.row.ends a)
