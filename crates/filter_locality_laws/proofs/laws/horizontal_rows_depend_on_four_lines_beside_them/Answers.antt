use Rattle.filter_locality_laws.proofs.Rows.{horizontal_row}
use Rattle.filter_locality_laws.proofs.laws.horizontal_rows_depend_on_four_lines_beside_them.Goals as goal

pub returns : goal.returns
returns c = horizontal_row
