use Rattle.std.proofs.Common.{arith}
use Rattle.spec_deblocking.specs.Planes.{horizontal}
use Rattle.deblock.specs.Windows.{lines_across}
use Rattle.deblock.proofs.Flat.{inside_holds}
use Rattle.deblock.proofs.Laying.{cond_by}
use Rattle.deblock.proofs.Rows.{row_edges}
use Rattle.deblock.proofs.row.horizontal_row.Goals as goal

pub returns-clause-value : goal.returns-clause-value
unfolding horizontal
returns-clause-value g c = λ x y a b d.
    let row = c.args.row.now in
    let value = rw c.lines_across.ensures at c.filter_row.ensures.value in
    cond_by _ _ _ _ _ (value y x (inside_holds (lines_across row.width row.first row.end) y x b d (omega arith) a))
    (row_edges row y x c.requires.row.columns a)
