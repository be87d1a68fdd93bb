use Rattle.made_picture_laws.proofs.Made.{b_decoded, p_decoded}
use Rattle.made_picture_laws.proofs.laws.made_predicted_pictures_are_decoded.Goals as goal

pub returns : goal.returns
returns c = record { one = p_decoded; two = b_decoded }
