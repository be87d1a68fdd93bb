use Rattle.std.proofs.Common.{◌≡◌, true, false, ◌+◌, ◌-◌, ◌*◌, ◌<◌, ◌≤◌, ◌&&◌, refl, sym, arith}
use Rattle.std.specs.Prelude.{min}
use Rattle.sao_filter.proofs.Beside.{first_of, second_of}
use Rattle.sao_filter.proofs.Edges.{IsPart, part_inside, part_laid, part_reads, part_room, part_stays}
use Rattle.sao_filter.proofs.Rows.{room}
use Rattle.sao_filter.proofs.edge.edge_part.Goals as goal

pub copy_run-requires-clause-lines : goal.copy_run-requires-clause-lines
copy_run-requires-clause-lines c =
    let row = c.args.row.now in
    let block = c.args.block in
    let part = c.args.part in
    let r =
    room row.width (part.line + block.skip)
    (min (row.size * row.row + row.size + 1) row.height - (row.size * row.row - 1)) part.to _
    (omega (arith, c.requires.row.begins, c.requires.block.lines, c.requires.block.skip, c.requires.line))
    c.requires.lines (omega (arith, c.requires.block.to, c.requires.columns)) in
    omega (arith, r, c.requires.columns)

pub copy_run-requires-clause-out : goal.copy_run-requires-clause-out
copy_run-requires-clause-out c =
    let row = c.args.row.now in
    let block = c.args.block in
    let part = c.args.part in
    let r =
    room row.width part.line block.lines part.to _ c.requires.line c.requires.out
    (omega (arith, c.requires.block.to, c.requires.columns)) in
    omega (arith, r, c.requires.columns)

pub edge_run-requires-clause-lines : goal.edge_run-requires-clause-lines
edge_run-requires-clause-lines c =
    let row = c.args.row.now in
    let block = c.args.block in
    let part = c.args.part in
    let r =
    room row.width (part.line + block.skip)
    (min (row.size * row.row + row.size + 1) row.height - (row.size * row.row - 1)) part.to _
    (omega (arith, c.requires.row.begins, c.requires.block.lines, c.requires.block.skip, c.requires.line))
    c.requires.lines (omega (arith, c.requires.block.to, c.requires.columns)) in
    omega (arith, r, c.requires.columns)

pub edge_run-requires-clause-out : goal.edge_run-requires-clause-out
edge_run-requires-clause-out c =
    let row = c.args.row.now in
    let block = c.args.block in
    let part = c.args.part in
    let r =
    room row.width part.line block.lines part.to _ c.requires.line c.requires.out
    (omega (arith, c.requires.block.to, c.requires.columns)) in
    omega (arith, r, c.requires.columns)

pub overflow_sub-beside : goal.overflow_sub-beside
overflow_sub-beside c =
    let row = c.args.row.now in
    let block = c.args.block in
    let part = c.args.part in
    let some : part.from < part.to = omega (arith, c.if-part.false, c.requires.columns) in
    let is : IsPart row block part.line part.from part.to = record {
      of_row = c.requires.row;
      of_block = c.requires.block;
      inside = c.requires.line;
      low = c.requires.columns.0;
      some = some;
      high = c.requires.columns.1.1;
      alike = c.requires.alike;
    } in
    let column = c.args.edge.now.column in
    let line = c.args.edge.now.line in
    let few : column ≤ 2 = omega (arith, c.requires.edge) in
    let low : line ≤ 2 = omega (arith, c.requires.edge) in
    let reads : (part_reads row block part.line part.from part.to column line
    && part_reads row block part.line part.from part.to (2 - column) (2 - line))
    ≡ true = sym c.if-not-reads_both.ensures in
    let one = part_inside row block part.line part.from part.to column line is few low (first_of _ _ reads) in
    omega (arith, one.above, c.requires.block.skip)

pub overflow_sub-beside-2 : goal.overflow_sub-beside-2
overflow_sub-beside-2 c =
    let row = c.args.row.now in
    let block = c.args.block in
    let part = c.args.part in
    let some : part.from < part.to = omega (arith, c.if-part.false, c.requires.columns) in
    let is : IsPart row block part.line part.from part.to = record {
      of_row = c.requires.row;
      of_block = c.requires.block;
      inside = c.requires.line;
      low = c.requires.columns.0;
      some = some;
      high = c.requires.columns.1.1;
      alike = c.requires.alike;
    } in
    let column = c.args.edge.now.column in
    let line = c.args.edge.now.line in
    let few : column ≤ 2 = omega (arith, c.requires.edge) in
    let low : line ≤ 2 = omega (arith, c.requires.edge) in
    let reads : (part_reads row block part.line part.from part.to column line
    && part_reads row block part.line part.from part.to (2 - column) (2 - line))
    ≡ true = sym c.if-not-reads_both.ensures in
    let one = part_inside row block part.line part.from part.to column line is few low (first_of _ _ reads) in
    omega (arith, one.left)

pub overflow_sub-beside-6 : goal.overflow_sub-beside-6
overflow_sub-beside-6 c =
    let row = c.args.row.now in
    let block = c.args.block in
    let part = c.args.part in
    let some : part.from < part.to = omega (arith, c.if-part.false, c.requires.columns) in
    let is : IsPart row block part.line part.from part.to = record {
      of_row = c.requires.row;
      of_block = c.requires.block;
      inside = c.requires.line;
      low = c.requires.columns.0;
      some = some;
      high = c.requires.columns.1.1;
      alike = c.requires.alike;
    } in
    let column = c.args.edge.now.column in
    let line = c.args.edge.now.line in
    let few : column ≤ 2 = omega (arith, c.requires.edge) in
    let low : line ≤ 2 = omega (arith, c.requires.edge) in
    let reads : (part_reads row block part.line part.from part.to column line
    && part_reads row block part.line part.from part.to (2 - column) (2 - line))
    ≡ true = sym c.if-not-reads_both.ensures in
    let two =
    part_inside row block part.line part.from part.to (2 - column) (2 - line) is (omega arith) (omega arith)
    (second_of (part_reads row block part.line part.from part.to column line) _ reads) in
    omega (arith, two.left)

pub edge_run-requires-clause-first : goal.edge_run-requires-clause-first
edge_run-requires-clause-first c =
    let row = c.args.row.now in
    let block = c.args.block in
    let part = c.args.part in
    let some : part.from < part.to = omega (arith, c.if-part.false, c.requires.columns) in
    let is : IsPart row block part.line part.from part.to = record {
      of_row = c.requires.row;
      of_block = c.requires.block;
      inside = c.requires.line;
      low = c.requires.columns.0;
      some = some;
      high = c.requires.columns.1.1;
      alike = c.requires.alike;
    } in
    let column = c.args.edge.now.column in
    let line = c.args.edge.now.line in
    let few : column ≤ 2 = omega (arith, c.requires.edge) in
    let low : line ≤ 2 = omega (arith, c.requires.edge) in
    let reads : (part_reads row block part.line part.from part.to column line
    && part_reads row block part.line part.from part.to (2 - column) (2 - line))
    ≡ true = sym c.if-not-reads_both.ensures in
    let one = part_inside row block part.line part.from part.to column line is few low (first_of _ _ reads) in
    let r = part_room row block c.args.lines.now part.line part.from part.to column line is c.requires.lines low one in
    omega (arith, r, one.left, some)

pub edge_run-requires-clause-second : goal.edge_run-requires-clause-second
edge_run-requires-clause-second c =
    let row = c.args.row.now in
    let block = c.args.block in
    let part = c.args.part in
    let some : part.from < part.to = omega (arith, c.if-part.false, c.requires.columns) in
    let is : IsPart row block part.line part.from part.to = record {
      of_row = c.requires.row;
      of_block = c.requires.block;
      inside = c.requires.line;
      low = c.requires.columns.0;
      some = some;
      high = c.requires.columns.1.1;
      alike = c.requires.alike;
    } in
    let column = c.args.edge.now.column in
    let line = c.args.edge.now.line in
    let few : column ≤ 2 = omega (arith, c.requires.edge) in
    let low : line ≤ 2 = omega (arith, c.requires.edge) in
    let reads : (part_reads row block part.line part.from part.to column line
    && part_reads row block part.line part.from part.to (2 - column) (2 - line))
    ≡ true = sym c.if-not-reads_both.ensures in
    let two =
    part_inside row block part.line part.from part.to (2 - column) (2 - line) is (omega arith) (omega arith)
    (second_of (part_reads row block part.line part.from part.to column line) _ reads) in
    let r =
    part_room row block c.args.lines.now part.line part.from part.to (2 - column) (2 - line) is c.requires.lines
    (omega arith) two in
    omega (arith, r, two.left, some)

pub returns-then-not-reads_both : goal.returns-then-not-reads_both
returns-then-not-reads_both c =
    let row = c.args.row.now in
    let block = c.args.block in
    let part = c.args.part in
    let some : part.from < part.to = omega (arith, c.if-part.false, c.requires.columns) in
    let is : IsPart row block part.line part.from part.to = record {
      of_row = c.requires.row;
      of_block = c.requires.block;
      inside = c.requires.line;
      low = c.requires.columns.0;
      some = some;
      high = c.requires.columns.1.1;
      alike = c.requires.alike;
    } in
    let column = c.args.edge.now.column in
    let line = c.args.edge.now.line in
    let few : column ≤ 2 = omega (arith, c.requires.edge) in
    let low : line ≤ 2 = omega (arith, c.requires.edge) in
    let reads : (part_reads row block part.line part.from part.to column line
    && part_reads row block part.line part.from part.to (2 - column) (2 - line))
    ≡ false = sym c.if-not-reads_both.ensures in
    λ offsets table. part_stays row block c.args.lines.now offsets part.line part.from part.to column line
    (row.width * (part.line + block.skip) + part.from) (row.width * part.line + part.from) (part.to - part.from)
    c.copy_run.new.out c.args.out.now is few low reads refl refl (omega (arith, some)) c.copy_run.ensures

pub returns : goal.returns
returns c =
    let row = c.args.row.now in
    let block = c.args.block in
    let part = c.args.part in
    let some : part.from < part.to = omega (arith, c.if-part.false, c.requires.columns) in
    let is : IsPart row block part.line part.from part.to = record {
      of_row = c.requires.row;
      of_block = c.requires.block;
      inside = c.requires.line;
      low = c.requires.columns.0;
      some = some;
      high = c.requires.columns.1.1;
      alike = c.requires.alike;
    } in
    let column = c.args.edge.now.column in
    let line = c.args.edge.now.line in
    let few : column ≤ 2 = omega (arith, c.requires.edge) in
    let low : line ≤ 2 = omega (arith, c.requires.edge) in
    let reads : (part_reads row block part.line part.from part.to column line
    && part_reads row block part.line part.from part.to (2 - column) (2 - line))
    ≡ true = sym c.if-not-reads_both.ensures in
    λ offsets table. part_laid row block c.args.lines.now offsets part.line part.from part.to column line
    (row.width * (part.line + block.skip) + part.from) (row.width * part.line + part.from) (part.to - part.from)
    (row.width * (part.line + block.skip + line - 1) + (part.from + column - 1))
    (row.width * (part.line + block.skip + (2 - line) - 1) + (part.from + (2 - column) - 1)) c.edge_run.new.out
    c.args.out.now is few low reads refl refl (omega (arith, some)) refl refl (c.edge_run.ensures offsets table)
