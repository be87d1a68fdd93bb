use Rattle.row_trees.proofs.Standing.{stands_first}
use Rattle.row_trees.proofs.row_reader.RowReader.new.Goals as goal

pub returns-clause-stands : goal.returns-clause-stands
returns-clause-stands c = stands_first c.args.plan.now c.new-2.result c.none.result c.new-2.ensures
