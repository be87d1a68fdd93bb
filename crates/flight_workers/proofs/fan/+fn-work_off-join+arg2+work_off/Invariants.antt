use Rattle.std.proofs.Common.{◌*◌, ◌+◌, length}
use Rattle.flight_workers.proofs.fan.+fn-work_off-join+arg2+work_off.Given as goal

abbrev pub decreases-work_off : goal.decreases-work_off
decreases-work_off g l = 2 * length l.others.now

abbrev pub decreases-join+arg2 : goal.decreases-join+arg2
decreases-join+arg2 g l = 2 * length l.rest.now + 1
