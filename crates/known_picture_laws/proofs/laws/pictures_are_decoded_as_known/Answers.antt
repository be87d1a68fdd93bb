use Rattle.known_picture_laws.proofs.Reading.{as_known}
use Rattle.known_picture_laws.proofs.laws.pictures_are_decoded_as_known.Goals as goal

pub returns : goal.returns
returns c = as_known
