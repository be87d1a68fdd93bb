use Rattle.std.proofs.Common.{◌*◌, ◌+◌, length}
use Rattle.board_tests.proofs.worker.+fan+fn-fan-join+arg2.Given as goal

abbrev pub decreases-fan : goal.decreases-fan
decreases-fan g l = 2 * length l.workers.now

abbrev pub decreases-join+arg2 : goal.decreases-join+arg2
decreases-join+arg2 g l = 2 * length l.rest.now + 1
