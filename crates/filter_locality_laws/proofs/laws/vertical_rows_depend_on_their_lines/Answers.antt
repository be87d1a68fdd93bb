use Rattle.filter_locality_laws.proofs.Rows.{vertical_row}
use Rattle.filter_locality_laws.proofs.laws.vertical_rows_depend_on_their_lines.Goals as goal

pub returns : goal.returns
returns c = vertical_row
