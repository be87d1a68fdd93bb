use Rattle.made_motion_laws.proofs.Keeping.{merging}
use Rattle.made_motion_laws.proofs.laws.merging_keeps.Goals as goal

pub returns : goal.returns
returns c = merging
