use Rattle.session_laws.proofs.Pending.{few_wait, fewer_wait, same_ahead}
use Rattle.session_laws.proofs.laws.units_leave_few_pending.Goals as goal

pub returns : goal.returns
returns c = record { ahead = same_ahead; few = few_wait; fewer = fewer_wait }
