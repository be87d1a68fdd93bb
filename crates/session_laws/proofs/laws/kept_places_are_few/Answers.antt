use Rattle.session_laws.proofs.Places.{few_places}
use Rattle.session_laws.proofs.laws.kept_places_are_few.Goals as goal

pub returns : goal.returns
returns c = few_places
