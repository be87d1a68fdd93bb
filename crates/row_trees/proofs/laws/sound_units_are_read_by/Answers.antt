use Rattle.std.proofs.Common.{is_some, ap}
use Rattle.flight_value_laws.proofs.Within.{read_there}
use Rattle.row_trees.proofs.laws.sound_units_are_read_by.Goals as goal

pub returns : goal.returns
returns c f k row x p at has row_inside inside having sound =
    ap is_some (read_there f k row x p has inside sound row_inside at having)
