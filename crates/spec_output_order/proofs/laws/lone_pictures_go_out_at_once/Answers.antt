use Rattle.spec_output_order.proofs.AtOnce.{at_once, none_last}
use Rattle.spec_output_order.proofs.laws.lone_pictures_go_out_at_once.Goals as goal

pub returns-clause-once : goal.returns-clause-once
returns-clause-once c = at_once

pub returns-clause-last : goal.returns-clause-last
returns-clause-last c = none_last
