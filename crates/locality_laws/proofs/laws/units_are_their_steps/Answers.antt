use Rattle.locality_laws.proofs.Steps.{unit_is_its_step}
use Rattle.locality_laws.proofs.Widths.{some_units}
use Rattle.locality_laws.proofs.laws.units_are_their_steps.Goals as goal

pub returns : goal.returns
returns c buffer p before later unit s g component x y sps e all agree mine =
    unit_is_its_step buffer p before later unit s (some_units p sps) e all g agree component x y mine
