use Rattle.std.proofs.Common.{length}
use Rattle.output_order.proofs.next_output.+next_output.Given as goal

abbrev pub decreases-next_output : goal.decreases-next_output
decreases-next_output l = length l.pictures.now
