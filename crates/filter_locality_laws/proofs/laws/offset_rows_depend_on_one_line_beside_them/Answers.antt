use Rattle.filter_locality_laws.proofs.Rows.{offset_row}
use Rattle.filter_locality_laws.proofs.laws.offset_rows_depend_on_one_line_beside_them.Goals as goal

pub returns : goal.returns
returns c = offset_row
