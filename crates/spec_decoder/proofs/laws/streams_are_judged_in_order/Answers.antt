use Rattle.spec_decoder.proofs.InOrder.{in_order, step_parts}
use Rattle.spec_decoder.proofs.laws.streams_are_judged_in_order.Goals as goal

pub returns : goal.returns
returns c = record { units = step_parts; trail = in_order }
