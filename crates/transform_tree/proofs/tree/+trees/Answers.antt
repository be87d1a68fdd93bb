use Rattle.std.proofs.Common.{◌≡◌, rules, ◌<◌, arith}
use Rattle.transform_tree.proofs.Growth.{at_most}
use Rattle.transform_tree.proofs.Powers.{quarters, some_area}
use Rattle.transform_tree.proofs.Trees.{tree_none, tree_some}
use Rattle.transform_tree.proofs.tree.+trees.Goals as goal

pub transform_tree-returns-then-square-eq0-clause-value : goal.transform_tree-returns-then-square-eq0-clause-value
transform_tree-returns-then-square-eq0-clause-value t c =
    let none : c.args.node.square.log2_size ≡ 0 = omega arith in
    rw (tree_none c.args.of.now.syntax c.args.of.now.unit c.args.node.flags c.args.node.square.log2_size
    c.args.node.depth c.args.node.square c.args.records.now _ none)
    (search rules)

pub transform_tree-returns-in_err-split-clause-value : goal.transform_tree-returns-in_err-split-clause-value
transform_tree-returns-in_err-split-clause-value t c =
    let some : 0 < c.args.node.square.log2_size = omega arith in
    rw (tree_some c.args.of.now.syntax c.args.of.now.unit c.args.node.flags c.args.node.square.log2_size
    c.args.node.depth c.args.node.square c.args.records.now _ some)
    (search rules)

pub transform_tree-returns-in_err-flags-clause-value : goal.transform_tree-returns-in_err-flags-clause-value
transform_tree-returns-in_err-flags-clause-value t c =
    let some : 0 < c.args.node.square.log2_size = omega arith in
    rw (tree_some c.args.of.now.syntax c.args.of.now.unit c.args.node.flags c.args.node.square.log2_size
    c.args.node.depth c.args.node.square c.args.records.now _ some)
    (search rules)

pub transform_tree-returns-then-not-split-clause-value : goal.transform_tree-returns-then-not-split-clause-value
transform_tree-returns-then-not-split-clause-value t c =
    let some : 0 < c.args.node.square.log2_size = omega arith in
    rw (tree_some c.args.of.now.syntax c.args.of.now.unit c.args.node.flags c.args.node.square.log2_size
    c.args.node.depth c.args.node.square c.args.records.now _ some)
    (search rules)

pub transform_tree-returns-clause-value : goal.transform_tree-returns-clause-value
transform_tree-returns-clause-value t c =
    let some : 0 < c.args.node.square.log2_size = omega arith in
    rw (tree_some c.args.of.now.syntax c.args.of.now.unit c.args.node.flags c.args.node.square.log2_size
    c.args.node.depth c.args.node.square c.args.records.now _ some)
    (search rules)

pub transform_tree-transform_unit-requires-clause-room : goal.transform_tree-transform_unit-requires-clause-room
transform_tree-transform_unit-requires-clause-room t c =
    omega (arith, c.requires.room, some_area c.args.node.square.log2_size)

pub transform_tree-transform_unit-requires-then-not-split-clause-room :
    goal.transform_tree-transform_unit-requires-then-not-split-clause-room
transform_tree-transform_unit-requires-then-not-split-clause-room t c =
    omega (arith, c.requires.room, some_area c.args.node.square.log2_size)

pub transform_tree-returns-then-square-eq0-clause-room : goal.transform_tree-returns-then-square-eq0-clause-room
transform_tree-returns-then-square-eq0-clause-room t c =
    at_most _ _ _ _ _ c.transform_unit.ensures.room (omega (arith, some_area c.args.node.square.log2_size))

pub transform_tree-returns-then-not-split-clause-room : goal.transform_tree-returns-then-not-split-clause-room
transform_tree-returns-then-not-split-clause-room t c =
    at_most _ _ _ _ _ c.transform_unit-then-not-split.ensures.room
    (omega (arith, some_area c.args.node.square.log2_size))

pub transform_tree-returns-clause-room : goal.transform_tree-returns-clause-room
transform_tree-returns-clause-room t c =
    at_most _ _ _ _ _ c.transform_quarters.ensures.room
    (omega (arith, quarters c.args.node.square.log2_size (omega arith)))

pub transform_tree-transform_quarters-requires : goal.transform_tree-transform_quarters-requires
transform_tree-transform_quarters-requires t c =
    let some : 0 < c.args.node.square.log2_size = omega arith in
    let room = quarters c.args.node.square.log2_size some in search rules
