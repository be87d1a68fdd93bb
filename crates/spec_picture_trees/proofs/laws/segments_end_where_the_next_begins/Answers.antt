use Rattle.std.proofs.Common.{max, ap, ◌∙◌}
use Rattle.std.proofs.Math.Nat.{max-eq_right, min-eq_left}
use Rattle.spec_picture_trees.proofs.laws.segments_end_where_the_next_begins.Goals as goal

pub returns : goal.returns
returns c size first next later above inside = ap (max first) (min-eq_left inside) ∙ max-eq_right above
