use Rattle.flight_lines.proofs.Placed.{unit_is_number}
use Rattle.flight_lines.proofs.laws.units_have_one_number.Goals as goal

pub returns : goal.returns
returns c = λ plan s l x sized line. unit_is_number plan s sized l x line
