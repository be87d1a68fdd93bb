use Rattle.made_decoding_laws.proofs.Planned.{all_decoded}
use Rattle.made_decoding_laws.proofs.laws.planned_pictures_are_decoded.Goals as goal

pub returns : goal.returns
returns c = all_decoded
