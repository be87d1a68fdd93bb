use Rattle.spec_reference_pictures.proofs.Sets.{nearest_first}
use Rattle.spec_reference_pictures.proofs.laws_short_term.sets_are_nearest_first.Goals as goal

pub returns : goal.returns
returns c = nearest_first
