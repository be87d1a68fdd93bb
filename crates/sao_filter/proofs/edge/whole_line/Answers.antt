use Rattle.std.proofs.Common.{◌+◌, ◌-◌, ◌*◌, refl, arith}
use Rattle.std.specs.Prelude.{min}
use Rattle.sao_filter.proofs.Edges.{first_inside, line_laid, line_room, second_inside}
use Rattle.sao_filter.proofs.Rows.{room}
use Rattle.sao_filter.proofs.edge.whole_line.Goals as goal

pub overflow_sub-beside : goal.overflow_sub-beside
overflow_sub-beside c =
    let edge = c.args.edge.now in
    let one = first_inside c.args.row.now c.args.block c.args.line edge.column edge.line c.requires.block
    c.requires.reads in
    omega (arith, one.above, c.requires.block.skip)

pub overflow_sub-beside-2 : goal.overflow_sub-beside-2
overflow_sub-beside-2 c =
    let edge = c.args.edge.now in
    let one = first_inside c.args.row.now c.args.block c.args.line edge.column edge.line c.requires.block
    c.requires.reads in
    omega (arith, one.left)

pub overflow_sub-beside-6 : goal.overflow_sub-beside-6
overflow_sub-beside-6 c =
    let edge = c.args.edge.now in
    let two = second_inside c.args.row.now c.args.block c.args.line edge.column edge.line c.requires.block
    c.requires.reads in
    omega (arith, two.left)

pub edge_run-requires-clause-lines : goal.edge_run-requires-clause-lines
edge_run-requires-clause-lines c =
    let row = c.args.row.now in
    let block = c.args.block in
    let r =
    room row.width (c.args.line + block.skip)
    (min (row.size * row.row + row.size + 1) row.height - (row.size * row.row - 1)) block.to _
    (omega (arith, c.requires.row.begins, c.requires.block.lines, c.requires.block.skip, c.requires.line))
    c.requires.lines (omega (arith, c.requires.block.to)) in
    omega (arith, r, c.requires.block.some)

pub edge_run-requires-clause-out : goal.edge_run-requires-clause-out
edge_run-requires-clause-out c =
    let row = c.args.row.now in
    let block = c.args.block in
    let r =
    room row.width c.args.line block.lines block.to _ c.requires.line c.requires.out
    (omega (arith, c.requires.block.to)) in
    omega (arith, r, c.requires.block.some)

pub edge_run-requires-clause-first : goal.edge_run-requires-clause-first
edge_run-requires-clause-first c =
    let row = c.args.row.now in
    let block = c.args.block in
    let edge = c.args.edge.now in
    let one = first_inside row block c.args.line edge.column edge.line c.requires.block c.requires.reads in
    let r =
    line_room row block c.args.lines.now c.args.line block.from block.to edge.column edge.line c.requires.row
    c.requires.block c.requires.line c.requires.lines (omega (arith, c.requires.edge)) one in
    omega (arith, r, one.left, c.requires.block.some)

pub edge_run-requires-clause-second : goal.edge_run-requires-clause-second
edge_run-requires-clause-second c =
    let row = c.args.row.now in
    let block = c.args.block in
    let edge = c.args.edge.now in
    let two = second_inside row block c.args.line edge.column edge.line c.requires.block c.requires.reads in
    let r =
    line_room row block c.args.lines.now c.args.line block.from block.to (2 - edge.column) (2 - edge.line)
    c.requires.row c.requires.block c.requires.line c.requires.lines (omega arith) two in
    omega (arith, r, two.left, c.requires.block.some)

pub returns : goal.returns
returns c = λ offsets table.
    let row = c.args.row.now in
    let block = c.args.block in
    let edge = c.args.edge.now in
    line_laid row block c.args.lines.now offsets c.args.line edge.column edge.line
    (row.width * (c.args.line + block.skip) + block.from) (row.width * c.args.line + block.from)
    (block.to - block.from) (row.width * (c.args.line + block.skip + edge.line - 1) + (block.from + edge.column - 1))
    (row.width * (c.args.line + block.skip + (2 - edge.line) - 1) + (block.from + (2 - edge.column) - 1))
    c.edge_run.new.out c.args.out.now c.requires.block c.requires.reads refl refl
    (omega (arith, c.requires.block.some)) refl refl (c.edge_run.ensures offsets table)
