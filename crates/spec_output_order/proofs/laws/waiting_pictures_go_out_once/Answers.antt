use Rattle.spec_output_order.proofs.Bounds.{last_once}
use Rattle.spec_output_order.proofs.Fates.{discarded_fate, other_fate, waiting_fate}
use Rattle.spec_output_order.proofs.laws.waiting_pictures_go_out_once.Goals as goal

pub returns : goal.returns
returns c = record { waiting = waiting_fate; other = other_fate; discarded = discarded_fate; last = last_once }
