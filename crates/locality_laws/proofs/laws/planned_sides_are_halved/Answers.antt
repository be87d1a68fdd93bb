use Rattle.locality_laws.proofs.Widths.{halved}
use Rattle.locality_laws.proofs.laws.planned_sides_are_halved.Goals as goal

pub returns : goal.returns
returns c = halved
