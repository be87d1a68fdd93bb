use Rattle.spec_picture_trees.proofs.Forgetting.{picture_forgotten}
use Rattle.spec_picture_trees.proofs.laws.picture_is_its_segments.Goals as goal

pub returns : goal.returns
returns c = picture_forgotten
