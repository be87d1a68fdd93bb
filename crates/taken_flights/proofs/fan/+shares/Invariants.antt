use Rattle.std.proofs.Common.{◌+◌, ◌*◌}
use Rattle.taken_flights.proofs.fan.+shares.Given as goal

abbrev pub decreases-fan : goal.decreases-fan
decreases-fan g l = 3 * l.workers

abbrev pub decreases-take_both-join_mut+arg2 : goal.decreases-take_both-join_mut+arg2
decreases-take_both-join_mut+arg2 g l = 3 * l.workers + 1

abbrev pub decreases-take_both : goal.decreases-take_both
decreases-take_both g l = 3 * l.workers + 2
