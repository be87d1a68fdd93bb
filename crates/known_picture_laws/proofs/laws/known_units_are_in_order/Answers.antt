use Rattle.known_picture_laws.proofs.Order.{in_order}
use Rattle.known_picture_laws.proofs.laws.known_units_are_in_order.Goals as goal

pub returns : goal.returns
returns c = in_order
