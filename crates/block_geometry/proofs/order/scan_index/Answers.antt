use Rattle.block_geometry.proofs.Scans.{index_in_table, diagonal_index_is, row_index_is, column_index_is}
use Rattle.block_geometry.proofs.order.scan_index.Goals as goal

pub bounds-first_of : goal.bounds-first_of
bounds-first_of c =
    index_in_table c.args.log2 c.args.x c.args.y c.side-side.result c.first_of.result c.side-side.ensures.value
    c.first_of.ensures.value c.requires.log2 c.requires.x c.requires.y

pub returns-in-Diagonal-clause-value : goal.returns-in-Diagonal-clause-value
returns-in-Diagonal-clause-value c =
    (diagonal_index_is c.args.kind c.args.log2 c.args.x c.args.y c.side-side.result c.first_of.result _ c.in-Diagonal.is
    c.side-side.ensures.value c.first_of.ensures.value c.from.ensures c.requires.log2 c.requires.x c.requires.y).value

pub returns-in-Diagonal-clause-inside : goal.returns-in-Diagonal-clause-inside
returns-in-Diagonal-clause-inside c =
    (diagonal_index_is c.args.kind c.args.log2 c.args.x c.args.y c.side-side.result c.first_of.result _ c.in-Diagonal.is
    c.side-side.ensures.value c.first_of.ensures.value c.from.ensures c.requires.log2 c.requires.x c.requires.y).inside

pub returns-in-Horizontal-clause-value : goal.returns-in-Horizontal-clause-value
returns-in-Horizontal-clause-value c =
    (row_index_is c.args.kind c.args.log2 c.args.x c.args.y c.side-side.result c.in-Horizontal.is
    c.side-side.ensures.value c.requires.log2 c.requires.x c.requires.y).value

pub returns-in-Horizontal-clause-inside : goal.returns-in-Horizontal-clause-inside
returns-in-Horizontal-clause-inside c =
    (row_index_is c.args.kind c.args.log2 c.args.x c.args.y c.side-side.result c.in-Horizontal.is
    c.side-side.ensures.value c.requires.log2 c.requires.x c.requires.y).inside

pub returns-in-Vertical-clause-value : goal.returns-in-Vertical-clause-value
returns-in-Vertical-clause-value c =
    (column_index_is c.args.kind c.args.log2 c.args.x c.args.y c.side-side.result c.in-Vertical.is
    c.side-side.ensures.value c.requires.log2 c.requires.x c.requires.y).value

pub returns-in-Vertical-clause-inside : goal.returns-in-Vertical-clause-inside
returns-in-Vertical-clause-inside c =
    (column_index_is c.args.kind c.args.log2 c.args.x c.args.y c.side-side.result c.in-Vertical.is
    c.side-side.ensures.value c.requires.log2 c.requires.x c.requires.y).inside

pub returns-in-Diagonal-clause-few : goal.returns-in-Diagonal-clause-few
returns-in-Diagonal-clause-few c =
    (diagonal_index_is c.args.kind c.args.log2 c.args.x c.args.y c.side-side.result c.first_of.result _ c.in-Diagonal.is
    c.side-side.ensures.value c.first_of.ensures.value c.from.ensures c.requires.log2 c.requires.x c.requires.y).few

pub returns-in-Horizontal-clause-few : goal.returns-in-Horizontal-clause-few
returns-in-Horizontal-clause-few c =
    (row_index_is c.args.kind c.args.log2 c.args.x c.args.y c.side-side.result c.in-Horizontal.is
    c.side-side.ensures.value c.requires.log2 c.requires.x c.requires.y).few

pub returns-in-Vertical-clause-few : goal.returns-in-Vertical-clause-few
returns-in-Vertical-clause-few c =
    (column_index_is c.args.kind c.args.log2 c.args.x c.args.y c.side-side.result c.in-Vertical.is
    c.side-side.ensures.value c.requires.log2 c.requires.x c.requires.y).few
