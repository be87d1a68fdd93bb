use Rattle.spec_output_order.proofs.Bounds.{few_wait, started_anew, started_room}
use Rattle.spec_output_order.proofs.laws.buffer_keeps_its_bounds.Goals as goal

pub returns : goal.returns
returns c = record { anew = started_anew; before = started_room; behind = few_wait }
