use Rattle.std.proofs.Common.{◌-◌, ◌*◌}
use Rattle.coding_quadtree.proofs.quadtree.+blocks.Given as goal

abbrev pub decreases-coding_quadtree : goal.decreases-coding_quadtree
decreases-coding_quadtree l = 2 * l.square.log2_size

abbrev pub decreases-coding_quarters : goal.decreases-coding_quarters
decreases-coding_quarters l = 2 * l.square.log2_size - 1
