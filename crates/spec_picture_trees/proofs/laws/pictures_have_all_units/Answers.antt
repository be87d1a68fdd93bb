use Rattle.spec_picture_trees.proofs.Sharing.{units_of_picture, units_of_segments}
use Rattle.spec_picture_trees.proofs.laws.pictures_have_all_units.Goals as goal

pub returns : goal.returns
returns c = record { all = units_of_picture; shared = units_of_segments }
