use Rattle.std.proofs.Common.{rules, ◌≡◌, ◌<◌, ◌≤◌, ◌+◌, ◌*◌, ◌&&◌, ℕ, true, length, nat_le, nat_lt, refl, sym}
use Rattle.std.proofs.Common.{◌∙◌, arith}
use Rattle.std.proofs.lemmas.Bool.Decides.{nat_tests}
use Rattle.spec_loop_filters.specs.Filters.{offset_plane}
use Rattle.spec_sample_adaptive_offset.specs.Plane.{offset_sample}
use Rattle.loop_filters.specs.Formats.{filters_of}
use Rattle.loop_filters.proofs.Gathered.{part_count, part_room, part_sample, row_lines_fit, row_written}
use Rattle.loop_filters.proofs.OffsetRows.{around_row, row_off, stays_or}
use Rattle.loop_filters.proofs.RowParts.{few, lines_inside, row_begins}
use Rattle.loop_filters.proofs.offsets.offset_lines.Goals as goal

pub gather_lines-requires-clause-begins : goal.gather_lines-requires-clause-begins
gather_lines-requires-clause-begins g c =
    row_begins c.args.component.now.size c.args.row c.args.component.now.rows c.args.component.now.height
    c.requires.component.high.1 c.requires.row

pub overflow_mul-width-then-has_offset : goal.overflow_mul-width-then-has_offset
overflow_mul-width-then-has_offset g c =
    let k = c.requires.component in
    let begins =
    row_begins c.args.component.now.size c.args.row c.args.component.now.rows c.args.component.now.height
    k.high.1 c.requires.row in
    let le =
    lines_inside c.args.component.now.width (c.args.component.now.size * c.args.row) c.args.component.now.height
    (omega (arith, begins)) in
    let all = few c.args.component.now.width c.args.component.now.height k.is_plane.width.1 k.is_plane.height.1 in
    omega (arith, le, all)

pub offset_bounds-samples-width : goal.offset_bounds-samples-width
offset_bounds-samples-width g c =
    let k = c.requires.component in
    let begins =
    row_begins c.args.component.now.size c.args.row c.args.component.now.rows c.args.component.now.height
    k.high.1 c.requires.row in
    let le =
    lines_inside c.args.component.now.width (c.args.component.now.size * c.args.row) c.args.component.now.height
    (omega (arith, begins)) in
    let all = few c.args.component.now.width c.args.component.now.height k.is_plane.width.1 k.is_plane.height.1 in
    omega (arith, le, all)

pub slice_bounds-offset_row-count : goal.slice_bounds-offset_row-count
slice_bounds-offset_row-count g c =
    let begins =
    row_begins c.args.component.now.size c.args.row c.args.component.now.rows c.args.component.now.height
    c.requires.component.high.1 c.requires.row in
    lines_inside c.args.component.now.width (c.args.component.now.size * c.args.row) c.min-end.result
    (omega (arith, begins, c.min-end.ensures))

pub slice_bounds-offset_row-start : goal.slice_bounds-offset_row-start
slice_bounds-offset_row-start g c =
    let begins =
    row_begins c.args.component.now.size c.args.row c.args.component.now.rows c.args.component.now.height
    c.requires.component.high.1 c.requires.row in
    let fits : c.args.component.now.width * c.min-end.result ≤ length c.args.samples.now =
    part_room c.args.component.now.width 0 c.min-end.result c.args.component.now.height _
    (omega arith) (omega (arith, c.min-end.ensures)) c.requires.samples in
    let low : c.args.component.now.width * (c.args.component.now.size * c.args.row)
    ≤ c.args.component.now.width * c.min-end.result =
    lines_inside c.args.component.now.width (c.args.component.now.size * c.args.row) c.min-end.result
    (omega (arith, begins, c.min-end.ensures)) in
    search rules

pub offset_row-requires-clause-lines : goal.offset_row-requires-clause-lines
offset_row-requires-clause-lines g c =
    row_lines_fit c.args.component.now.width (c.args.component.now.size * c.args.row) c.args.component.now.size
    c.args.component.now.height _ c.requires.component.size_few.1 (search rules)

pub offset_row-requires-clause-room : goal.offset_row-requires-clause-room
offset_row-requires-clause-room g c =
    let begins =
    row_begins c.args.component.now.size c.args.row c.args.component.now.rows c.args.component.now.height
    c.requires.component.high.1 c.requires.row in
    part_count c.args.component.now.width (c.args.component.now.size * c.args.row) c.min-end.result
    c.args.component.now.size c.args.component.now.height _ c.args.samples.now c.min-end.ensures begins refl
    c.requires.samples

pub returns-then-has_offset-clause-value : goal.returns-then-has_offset-clause-value
returns-then-has_offset-clause-value g c = λ f stands x y column line.
    let begins =
    row_begins c.args.component.now.size c.args.row c.args.component.now.rows c.args.component.now.height
    c.requires.component.high.1 c.requires.row in
    row_written c.args.component.now.width (c.args.component.now.size * c.args.row) c.min-end.result
    c.args.component.now.size c.args.component.now.height _ c.args.samples.now c.offset_row.new.out
    (offset_sample (offset_plane (filters_of (g.V.FilterView.shape c.args.view.now)
    (g.V.PlaceView.place_at c.args.view.now) (g.V.FilterView.unit_at c.args.view.now)) c.args.component.now.c) f)
    x y c.min-end.ensures begins refl c.requires.samples (search rules)
    (λ i j left few. c.offset_row.ensures f
    (around_row c.args.component.now c.args.row f c.args.samples.now c.args.last.now c.gather_lines.new.lines stands
    c.gather_lines.ensures.own c.gather_lines.ensures.above)
    i j left (omega (arith, few, c.min-end.ensures))
    (part_sample c.args.component.now.width (c.args.component.now.size * c.args.row) c.min-end.result i j _
    c.args.samples.now (omega (arith, begins, c.min-end.ensures)) left few refl
    ∙ stands.own i (c.args.component.now.size * c.args.row + j) left (omega (arith, few, c.min-end.ensures))
    (omega arith) (omega (arith, few, c.min-end.ensures))))
    column line

pub returns-else-has_offset-clause-value : goal.returns-else-has_offset-clause-value
returns-else-has_offset-clause-value g c = λ f stands x y column line.
    let k = c.requires.component in
    let top : ℕ = c.args.component.now.size * c.args.row in
    stays_or _ _ _ (λ (t : (nat_le (c.args.component.now.size * c.args.row) y
    && nat_lt y (c.args.component.now.size * c.args.row + c.args.component.now.size)) ≡ true).
    let low : c.args.component.now.size * c.args.row ≤ y = grind (arith, nat_tests) in
    let high : y < c.args.component.now.size * c.args.row + c.args.component.now.size = grind (arith, nat_tests) in
    stands.own x y column line low (omega (arith, high))
    ∙ sym (row_off
    (offset_plane (filters_of (g.V.FilterView.shape c.args.view.now) (g.V.PlaceView.place_at c.args.view.now)
    (g.V.FilterView.unit_at c.args.view.now)) c.args.component.now.c)
    c.args.component.now.size c.args.row _ c.args.component.now.width c.units.result.now f x y (sym k.size) k.wide.0
    c.units.ensures.count c.units.ensures.units (c.has_offset.ensures.none c.if-has_offset.false) column low high))
