use Rattle.spec_reference_pictures.proofs.Sets.{stays_near}
use Rattle.spec_reference_pictures.proofs.laws_short_term.sets_are_near.Goals as goal

pub returns : goal.returns
returns c = stays_near
