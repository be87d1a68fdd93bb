use Rattle.motion_candidates.proofs.Lists.{four_present}
use Rattle.motion_candidates.proofs.spatial.first_four.Goals as goal

pub returns-clause-value : goal.returns-clause-value
returns-clause-value c = cc (four_present c.args.a1 c.unless_same.result c.unless_same-2.result c.unless_same-3.result)
