use Rattle.spec_decoded_pictures.proofs.OneFold.{one_fold}
use Rattle.spec_decoded_pictures.proofs.laws.pictures_are_one_fold.Goals as goal

pub returns : goal.returns
returns c = one_fold
