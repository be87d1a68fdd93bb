use Rattle.block_geometry.proofs.Scans.{in_table, diagonal_is, horizontal_is, vertical_is}
use Rattle.block_geometry.proofs.order.scan.Goals as goal

pub bounds-at : goal.bounds-at
bounds-at c = in_table c.args.log2 c.args.i c.first_of.result c.first_of.ensures.value c.requires.log2 c.requires.index

pub bounds-at-in-Diagonal : goal.bounds-at-in-Diagonal
bounds-at-in-Diagonal c =
    in_table c.args.log2 c.args.i c.first_of.result c.first_of.ensures.value c.requires.log2 c.requires.index

pub returns-in-Diagonal-clause-value : goal.returns-in-Diagonal-clause-value
returns-in-Diagonal-clause-value c =
    (diagonal_is c.args.kind c.args.log2 c.args.i c.first_of.result _ _ c.in-Diagonal.is c.first_of.ensures.value
    c.from.ensures c.from-in-Diagonal.ensures c.requires.log2 c.requires.index).value

pub returns-in-Diagonal-clause-x : goal.returns-in-Diagonal-clause-x
returns-in-Diagonal-clause-x c =
    (diagonal_is c.args.kind c.args.log2 c.args.i c.first_of.result _ _ c.in-Diagonal.is c.first_of.ensures.value
    c.from.ensures c.from-in-Diagonal.ensures c.requires.log2 c.requires.index).left

pub returns-in-Diagonal-clause-y : goal.returns-in-Diagonal-clause-y
returns-in-Diagonal-clause-y c =
    (diagonal_is c.args.kind c.args.log2 c.args.i c.first_of.result _ _ c.in-Diagonal.is c.first_of.ensures.value
    c.from.ensures c.from-in-Diagonal.ensures c.requires.log2 c.requires.index).above

pub returns-in-Horizontal-clause-value : goal.returns-in-Horizontal-clause-value
returns-in-Horizontal-clause-value c =
    (horizontal_is c.args.kind c.args.log2 c.args.i c.side-side.result c.in-Horizontal.is c.side-side.ensures.value
    c.requires.log2 c.requires.index).value

pub returns-in-Horizontal-clause-x : goal.returns-in-Horizontal-clause-x
returns-in-Horizontal-clause-x c =
    (horizontal_is c.args.kind c.args.log2 c.args.i c.side-side.result c.in-Horizontal.is c.side-side.ensures.value
    c.requires.log2 c.requires.index).left

pub returns-in-Horizontal-clause-y : goal.returns-in-Horizontal-clause-y
returns-in-Horizontal-clause-y c =
    (horizontal_is c.args.kind c.args.log2 c.args.i c.side-side.result c.in-Horizontal.is c.side-side.ensures.value
    c.requires.log2 c.requires.index).above

pub returns-in-Vertical-clause-value : goal.returns-in-Vertical-clause-value
returns-in-Vertical-clause-value c =
    (vertical_is c.args.kind c.args.log2 c.args.i c.side-side.result c.in-Vertical.is c.side-side.ensures.value
    c.requires.log2 c.requires.index).value

pub returns-in-Vertical-clause-x : goal.returns-in-Vertical-clause-x
returns-in-Vertical-clause-x c =
    (vertical_is c.args.kind c.args.log2 c.args.i c.side-side.result c.in-Vertical.is c.side-side.ensures.value
    c.requires.log2 c.requires.index).left

pub returns-in-Vertical-clause-y : goal.returns-in-Vertical-clause-y
returns-in-Vertical-clause-y c =
    (vertical_is c.args.kind c.args.log2 c.args.i c.side-side.result c.in-Vertical.is c.side-side.ensures.value
    c.requires.log2 c.requires.index).above

pub returns-in-Diagonal-clause-few_x : goal.returns-in-Diagonal-clause-few_x
returns-in-Diagonal-clause-few_x c =
    (diagonal_is c.args.kind c.args.log2 c.args.i c.first_of.result _ _ c.in-Diagonal.is c.first_of.ensures.value
    c.from.ensures c.from-in-Diagonal.ensures c.requires.log2 c.requires.index).few_left

pub returns-in-Diagonal-clause-few_y : goal.returns-in-Diagonal-clause-few_y
returns-in-Diagonal-clause-few_y c =
    (diagonal_is c.args.kind c.args.log2 c.args.i c.first_of.result _ _ c.in-Diagonal.is c.first_of.ensures.value
    c.from.ensures c.from-in-Diagonal.ensures c.requires.log2 c.requires.index).few_above

pub returns-in-Horizontal-clause-few_x : goal.returns-in-Horizontal-clause-few_x
returns-in-Horizontal-clause-few_x c =
    (horizontal_is c.args.kind c.args.log2 c.args.i c.side-side.result c.in-Horizontal.is c.side-side.ensures.value
    c.requires.log2 c.requires.index).few_left

pub returns-in-Horizontal-clause-few_y : goal.returns-in-Horizontal-clause-few_y
returns-in-Horizontal-clause-few_y c =
    (horizontal_is c.args.kind c.args.log2 c.args.i c.side-side.result c.in-Horizontal.is c.side-side.ensures.value
    c.requires.log2 c.requires.index).few_above

pub returns-in-Vertical-clause-few_x : goal.returns-in-Vertical-clause-few_x
returns-in-Vertical-clause-few_x c =
    (vertical_is c.args.kind c.args.log2 c.args.i c.side-side.result c.in-Vertical.is c.side-side.ensures.value
    c.requires.log2 c.requires.index).few_left

pub returns-in-Vertical-clause-few_y : goal.returns-in-Vertical-clause-few_y
returns-in-Vertical-clause-few_y c =
    (vertical_is c.args.kind c.args.log2 c.args.i c.side-side.result c.in-Vertical.is c.side-side.ensures.value
    c.requires.log2 c.requires.index).few_above
