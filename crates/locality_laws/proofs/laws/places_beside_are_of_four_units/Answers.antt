use Rattle.locality_laws.proofs.Samples.{border_of_four}
use Rattle.locality_laws.proofs.laws.places_beside_are_of_four_units.Goals as goal

pub returns : goal.returns
returns c = border_of_four
