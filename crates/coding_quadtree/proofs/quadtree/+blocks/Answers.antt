use Rattle.std.proofs.Common.{rules, ◌<◌, arith}
use Rattle.transform_tree.proofs.Growth.{at_most}
use Rattle.transform_tree.proofs.Powers.{quarters}
use Rattle.coding_quadtree.proofs.Trees.{quadtree_some}
use Rattle.coding_quadtree.proofs.quadtree.+blocks.Goals as goal

pub coding_quadtree-returns-then-from-syntax-clause-value : goal.coding_quadtree-returns-then-from-syntax-clause-value
coding_quadtree-returns-then-from-syntax-clause-value t c =
    let some : 0 < c.args.square.log2_size = omega (arith, c.requires.syntax.coding, c.requires.least) in
    rw (quadtree_some c.args.syntax.now c.args.square.log2_size c.args.depth c.args.square c.args.records.now _ some)
    (search rules)

pub coding_quadtree-returns-in_err-split-clause-value : goal.coding_quadtree-returns-in_err-split-clause-value
coding_quadtree-returns-in_err-split-clause-value t c =
    let some : 0 < c.args.square.log2_size = omega (arith, c.requires.syntax.coding, c.requires.least) in
    rw (quadtree_some c.args.syntax.now c.args.square.log2_size c.args.depth c.args.square c.args.records.now _ some)
    (search rules)

pub coding_quadtree-returns-then-split-clause-value : goal.coding_quadtree-returns-then-split-clause-value
coding_quadtree-returns-then-split-clause-value t c =
    let some : 0 < c.args.square.log2_size = omega (arith, c.requires.syntax.coding, c.requires.least) in
    rw (quadtree_some c.args.syntax.now c.args.square.log2_size c.args.depth c.args.square c.args.records.now _ some)
    (search rules)

pub coding_quadtree-returns-else-split-clause-value : goal.coding_quadtree-returns-else-split-clause-value
coding_quadtree-returns-else-split-clause-value t c =
    let some : 0 < c.args.square.log2_size = omega (arith, c.requires.syntax.coding, c.requires.least) in
    rw (quadtree_some c.args.syntax.now c.args.square.log2_size c.args.depth c.args.square c.args.records.now _ some)
    (search rules)

pub coding_quadtree-coding_quarters-requires : goal.coding_quadtree-coding_quarters-requires
coding_quadtree-coding_quarters-requires t c =
    let some : 0 < c.args.square.log2_size = omega (arith, c.requires.syntax.coding, c.requires.least) in
    let room = quarters c.args.square.log2_size some in search rules

pub coding_quadtree-returns-then-split-clause-room : goal.coding_quadtree-returns-then-split-clause-room
coding_quadtree-returns-then-split-clause-room t c =
    let some : 0 < c.args.square.log2_size = omega (arith, c.requires.syntax.coding, c.requires.least) in
    let room = quarters c.args.square.log2_size some in
    rw (← c.begin_group.ensures.same) (at_most _ _ _ _ _ c.coding_quarters.ensures.room (omega (arith, room)))
