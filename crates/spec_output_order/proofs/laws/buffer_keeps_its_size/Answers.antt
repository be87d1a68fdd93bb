use Rattle.spec_output_order.proofs.Anew.{anew_marks_none}
use Rattle.spec_output_order.proofs.Room.{fits, place_takes_one, start_leaves_room}
use Rattle.spec_output_order.proofs.laws.buffer_keeps_its_size.Goals as goal

pub returns : goal.returns
returns c = record { start = start_leaves_room; place = place_takes_one; both = fits; anew = anew_marks_none }
