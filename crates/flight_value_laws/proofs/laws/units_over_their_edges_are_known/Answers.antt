use Rattle.flight_value_laws.proofs.Over.{read_is}
use Rattle.flight_value_laws.proofs.Sides.{bottom_is, right_is}
use Rattle.flight_value_laws.proofs.Within.{known_as}
use Rattle.flight_value_laws.proofs.laws.units_over_their_edges_are_known.Goals as goal

pub returns-clause-given : goal.returns-clause-given
returns-clause-given c p known address at before left above r having is left_before =
    read_is known at address before left above left_before p r having is

pub returns-clause-known : goal.returns-clause-known
returns-clause-known c f k row x p at before left above has row_inside inside having sound left_before =
    known_as f k row x p has inside sound row_inside at having before left above left_before

pub returns-clause-right : goal.returns-clause-right
returns-clause-right c = right_is

pub returns-clause-bottom : goal.returns-clause-bottom
returns-clause-bottom c = bottom_is
