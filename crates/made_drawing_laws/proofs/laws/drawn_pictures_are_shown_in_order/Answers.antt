use Rattle.std.proofs.Common.{◌+◌}
use Rattle.spec_drawn_pictures.specs.Shown.{shown_at}
use Rattle.made_drawing_laws.proofs.Decoded.{before_is}
use Rattle.made_drawing_laws.proofs.laws.drawn_pictures_are_shown_in_order.Goals as goal

pub returns-clause-inside : goal.returns-clause-inside
returns-clause-inside c = c.made_pictures_go_out_in_order.ensures.inside

pub returns-clause-once : goal.returns-clause-once
returns-clause-once c = c.made_pictures_go_out_in_order.ensures.once

pub returns-clause-rising : goal.returns-clause-rising
returns-clause-rising c = λ pictures place inside.
    before_is (shown_at pictures place) (shown_at pictures (place + 1))
    (c.made_pictures_go_out_in_order.ensures.rising pictures place inside)
