use Rattle.made_picture_laws.proofs.Idr.{idr_decoded}
use Rattle.made_picture_laws.proofs.laws.made_idr_pictures_are_decoded.Goals as goal

pub returns : goal.returns
returns c = idr_decoded
