use Rattle.row_trees.proofs.Standing.{stands_alone}
use Rattle.row_trees.proofs.row_reader.RowReader.begin_row.Goals as goal

pub returns-clause-stands : goal.returns-clause-stands
returns-clause-stands c address first alone = stands_alone _ address _ _ c.new-self.ensures first alone
