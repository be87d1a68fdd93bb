use Rattle.made_laws.proofs.Places.{once}
use Rattle.made_laws.proofs.Rising.{inside, rises}
use Rattle.made_laws.proofs.Whole.{order_is}
use Rattle.made_laws.proofs.laws.made_pictures_go_out_in_order.Goals as goal

pub returns : goal.returns
returns c = record { order = order_is; inside = inside; once = once; rising = rises }
