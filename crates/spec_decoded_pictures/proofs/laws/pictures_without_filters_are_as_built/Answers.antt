use Rattle.spec_decoded_pictures.proofs.Unfiltered.{as_built}
use Rattle.spec_decoded_pictures.proofs.laws.pictures_without_filters_are_as_built.Goals as goal

pub returns : goal.returns
returns c = as_built
