use Rattle.std.proofs.Common.{◌-◌, ◌*◌}
use Rattle.transform_tree.proofs.tree.+trees.Given as goal

abbrev pub decreases-transform_tree : goal.decreases-transform_tree
decreases-transform_tree l = 2 * l.node.square.log2_size

abbrev pub decreases-transform_quarters : goal.decreases-transform_quarters
decreases-transform_quarters l = 2 * l.below.square.log2_size - 1
