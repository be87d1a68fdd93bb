use Rattle.spec_slice_data.specs.Tree.{unit_and_end}
use Rattle.spec_driven_trees.proofs.Spelling.{spelled}
use Rattle.spec_driven_trees.proofs.laws.units_are_spelled.Goals as goal

pub returns : goal.returns
returns c = λ syntax left above is_last ends_subset ctu. spelled (unit_and_end syntax left above is_last ends_subset
    ctu)
