use Rattle.std.proofs.Common.{ℕ, ◌+◌, ◌*◌, ◌∙◌}
use Rattle.std.proofs.lemmas.List.Edits.{length-between}
use Rattle.sample_lines.specs.FactsOfFlights.{flight_in}
use Rattle.taken_pictures.proofs.RowSamples.{are_part, part_count, part_ends, part_lines, part_room, part_value}
use Rattle.taken_pictures.proofs.row_samples.lay_component.Goals as goal

pub slice_bounds-read_lines-end : goal.slice_bounds-read_lines-end
slice_bounds-read_lines-end c =
    let s = c.args.layout.now in
    let at = c.args.at.now in
    let n = c.args.c in
    let w : ℕ = c.component_side-width.result in
    let first : ℕ = c.component_side-first.result in
    let count : ℕ = c.component_side-count.result in
    let part = are_part s c.sizes-sizes.result at c.line-line.result n c.from-row.result c.ctb_size-side.result
    c.height_of-lines.result w first count c.sizes-sizes.ensures.in_range c.sizes-sizes.ensures.value
    c.requires.place c.requires.phase c.line-line.ensures.unit c.line-line.ensures.value c.from-row.ensures
    c.ctb_size-side.ensures.value c.height_of-lines.ensures.value c.component_side-width.ensures.value
    c.component_side-first.ensures.value c.component_side-count.ensures.value in
    let plane = c.args.plane.now in
    part_ends s at n w first count part plane c.requires.whole

pub read_lines-requires-clause-inside : goal.read_lines-requires-clause-inside
read_lines-requires-clause-inside c =
    let s = c.args.layout.now in
    let at = c.args.at.now in
    let n = c.args.c in
    let w : ℕ = c.component_side-width.result in
    let first : ℕ = c.component_side-first.result in
    let count : ℕ = c.component_side-count.result in
    let part = are_part s c.sizes-sizes.result at c.line-line.result n c.from-row.result c.ctb_size-side.result
    c.height_of-lines.result w first count c.sizes-sizes.ensures.in_range c.sizes-sizes.ensures.value
    c.requires.place c.requires.phase c.line-line.ensures.unit c.line-line.ensures.value c.from-row.ensures
    c.ctb_size-side.ensures.value c.height_of-lines.ensures.value c.component_side-width.ensures.value
    c.component_side-first.ensures.value c.component_side-count.ensures.value in
    let plane = c.args.plane.now in
    part_lines s at n w first count part plane c.requires.whole

pub read_lines-requires-clause-room : goal.read_lines-requires-clause-room
read_lines-requires-clause-room c =
    let s = c.args.layout.now in
    let at = c.args.at.now in
    let n = c.args.c in
    let w : ℕ = c.component_side-width.result in
    let first : ℕ = c.component_side-first.result in
    let count : ℕ = c.component_side-count.result in
    let part = are_part s c.sizes-sizes.result at c.line-line.result n c.from-row.result c.ctb_size-side.result
    c.height_of-lines.result w first count c.sizes-sizes.ensures.in_range c.sizes-sizes.ensures.value
    c.requires.place c.requires.phase c.line-line.ensures.unit c.line-line.ensures.value c.from-row.ensures
    c.ctb_size-side.ensures.value c.height_of-lines.ensures.value c.component_side-width.ensures.value
    c.component_side-first.ensures.value c.component_side-count.ensures.value in
    let plane = c.args.plane.now in
    let ends = part_ends s at n w first count part plane c.requires.whole in
    let size = length-between plane (w * first) (w * first + w * count) ends in
    size ∙ part_room s at n w first count part plane c.requires.whole

pub returns-clause-count : goal.returns-clause-count
returns-clause-count c =
    let s = c.args.layout.now in
    let at = c.args.at.now in
    let n = c.args.c in
    let w : ℕ = c.component_side-width.result in
    let first : ℕ = c.component_side-first.result in
    let count : ℕ = c.component_side-count.result in
    let part = are_part s c.sizes-sizes.result at c.line-line.result n c.from-row.result c.ctb_size-side.result
    c.height_of-lines.result w first count c.sizes-sizes.ensures.in_range c.sizes-sizes.ensures.value
    c.requires.place c.requires.phase c.line-line.ensures.unit c.line-line.ensures.value c.from-row.ensures
    c.ctb_size-side.ensures.value c.height_of-lines.ensures.value c.component_side-width.ensures.value
    c.component_side-first.ensures.value c.component_side-count.ensures.value in
    let plane = c.args.plane.now in
    let ends = part_ends s at n w first count part plane c.requires.whole in
    let size = length-between plane (w * first) (w * first + w * count) ends in
    part_count s at n w first count part plane c.requires.whole c.read_lines.new.out
    (c.read_lines.ensures.count ∙ size)

pub returns-clause-value : goal.returns-clause-value
returns-clause-value c =
    let s = c.args.layout.now in
    let at = c.args.at.now in
    let n = c.args.c in
    let w : ℕ = c.component_side-width.result in
    let first : ℕ = c.component_side-first.result in
    let count : ℕ = c.component_side-count.result in
    let part = are_part s c.sizes-sizes.result at c.line-line.result n c.from-row.result c.ctb_size-side.result
    c.height_of-lines.result w first count c.sizes-sizes.ensures.in_range c.sizes-sizes.ensures.value
    c.requires.place c.requires.phase c.line-line.ensures.unit c.line-line.ensures.value c.from-row.ensures
    c.ctb_size-side.ensures.value c.height_of-lines.ensures.value c.component_side-width.ensures.value
    c.component_side-first.ensures.value c.component_side-count.ensures.value in
    let plane = c.args.plane.now in
    let ends = part_ends s at n w first count part plane c.requires.whole in
    let size = length-between plane (w * first) (w * first + w * count) ends in
    part_value s at n w first count part plane c.requires.whole c.read_lines.new.out
    (c.read_lines.ensures.count ∙ size) (flight_in c.args.board.now.flight) c.read_lines.ensures.value
