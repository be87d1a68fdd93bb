use Rattle.spec_deblocking.proofs.Locality.{vertical_rows, horizontal_rows}
use Rattle.spec_deblocking.proofs.laws.rows_read_their_lines_and_four_beside.Goals as goal

pub returns-clause-vertical : goal.returns-clause-vertical
returns-clause-vertical c = vertical_rows

pub returns-clause-horizontal : goal.returns-clause-horizontal
returns-clause-horizontal c = horizontal_rows
