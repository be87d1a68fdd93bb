use Rattle.spec_picture_trees.proofs.Sharing.{units_are_shared_out}
use Rattle.spec_picture_trees.proofs.laws.segments_share_out_the_units.Goals as goal

pub returns : goal.returns
returns c = units_are_shared_out
