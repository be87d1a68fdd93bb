use Rattle.row_waits.proofs.Told.{items_earlier, reach_is}
use Rattle.row_waits.proofs.laws.items_reach_what_their_flight_tells.Goals as goal

pub returns-clause-told : goal.returns-clause-told
returns-clause-told c = reach_is

pub returns-clause-earlier : goal.returns-clause-earlier
returns-clause-earlier c = items_earlier
