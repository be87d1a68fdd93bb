use Rattle.spec_picture_plan.proofs.HeaderFacts.{judged_flag, opens}
use Rattle.spec_picture_plan.proofs.laws.accepted_headers_open_pictures.Goals as goal

pub returns : goal.returns
returns c = record { opens = opens; first = judged_flag }
