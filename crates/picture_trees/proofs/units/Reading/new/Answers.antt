use Rattle.std.proofs.Common.{refl}
use Rattle.spec_picture_trees.specs.Picture.{before_picture}
use Rattle.picture_trees.proofs.units.Reading.new.Goals as goal

pub returns-clause-before : goal.returns-clause-before
unfolding before_picture
returns-clause-before c = rw (c.init.ensures) c.new.ensures
