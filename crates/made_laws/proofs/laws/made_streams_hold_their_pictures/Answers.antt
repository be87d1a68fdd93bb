use Rattle.made_laws.proofs.Whole.{plan_is, plans_count}
use Rattle.made_laws.proofs.laws.made_streams_hold_their_pictures.Goals as goal

pub returns : goal.returns
returns c = record { plan = plan_is; count = plans_count }
