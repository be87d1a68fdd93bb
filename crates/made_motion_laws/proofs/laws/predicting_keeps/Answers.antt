use Rattle.made_motion_laws.proofs.Keeping.{predicting}
use Rattle.made_motion_laws.proofs.laws.predicting_keeps.Goals as goal

pub returns : goal.returns
returns c = predicting
