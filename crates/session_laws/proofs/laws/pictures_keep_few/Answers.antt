use Rattle.session_laws.proofs.Kept.{few_are_kept}
use Rattle.session_laws.proofs.laws.pictures_keep_few.Goals as goal

pub returns : goal.returns
returns c = few_are_kept
