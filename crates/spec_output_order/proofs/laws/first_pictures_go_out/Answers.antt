use Rattle.spec_output_order.proofs.FirstForOutput.{bumps, is_next, none_needed_next}
use Rattle.spec_output_order.proofs.laws.first_pictures_go_out.Goals as goal

pub returns : goal.returns
returns c = record {
  next = λ pictures n is. (is_next pictures n is).first;
  count = λ pictures n is. (is_next pictures n is).poc;
  none = none_needed_next;
  bumping = bumps;
}
