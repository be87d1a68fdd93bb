use Rattle.spec_output_order.proofs.AtOnce.{marked_length}
use Rattle.spec_output_order.proofs.Bounds.{last_inside}
use Rattle.spec_output_order.proofs.Fates.{in_range, stays_as_marked}
use Rattle.spec_output_order.proofs.laws.outputs_name_pictures_of_the_buffer.Goals as goal

pub returns : goal.returns
returns c = record { places = in_range; last = last_inside; kept = stays_as_marked; marked = marked_length }
