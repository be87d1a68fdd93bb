use Rattle.spec_output_order.proofs.Placed.{in_two_steps}
use Rattle.spec_output_order.proofs.laws.outputs_are_a_start_and_a_placing.Goals as goal

pub returns : goal.returns
returns c = in_two_steps
