use Rattle.std.proofs.Common.{rules, sym, ◌∙◌, arith}
use Rattle.spec_loop_filters.specs.Filters.{offset_plane}
use Rattle.spec_sample_adaptive_offset.specs.Plane.{offset_sample}
use Rattle.loop_filters.specs.Formats.{filters_of}
use Rattle.loop_filters.proofs.OffsetRows.{row_off}
use Rattle.row_filters.proofs.Written.{copied, own_before, own_behind, own_inside}
use Rattle.row_filters.proofs.Rows.{begins}
use Rattle.row_filters.proofs.offsets.offset_lines.Goals as goal

pub overflow_sub-component : goal.overflow_sub-component
overflow_sub-component g c =
    let inside =
    begins (g.V.FilterView.shape c.args.view.now) c.args.component.now c.args.row c.requires.component c.requires.row in
    omega (arith, inside)

pub slice_bounds-offset_row-end : goal.slice_bounds-offset_row-end
slice_bounds-offset_row-end g c =
    own_inside c.args.component.now c.args.row c.min-above.result c.min.result c.args.samples.now c.min-above.ensures
    c.min.ensures
    (begins (g.V.FilterView.shape c.args.view.now) c.args.component.now c.args.row c.requires.component c.requires.row)
    c.requires.samples

pub returns-then-has_offset : goal.returns-then-has_offset
returns-then-has_offset g c = λ places units f are known held.
    let k = c.args.component.now in
    let shape = g.V.FilterView.shape c.args.view.now in
    let inside = begins shape k c.args.row c.requires.component c.requires.row in
    own_behind k c.args.row c.min-above.result c.min.result c.args.samples.now c.min-above.ensures c.min.ensures
    inside c.requires.samples (offset_sample (offset_plane (filters_of shape places units) k.c) f)
    c.offset_row.new.out (search rules)
    (λ i j left few.
    c.offset_row.ensures places units f are known
    (copied k c.args.row c.args.samples.now c.copy_lines.new.out f c.requires.samples c.copy_lines.ensures held) i j
    left (omega (arith, few, c.min.ensures))
    (own_before k c.args.row c.min-above.result c.min.result c.args.samples.now c.min-above.ensures c.min.ensures
    inside c.requires.samples f held i j left few))

pub returns-else-has_offset : goal.returns-else-has_offset
returns-else-has_offset g c = λ places units f are known held x y column low high.
    let k = c.requires.component in
    let p = c.args.component.now in
    held x y column (omega (arith, low)) (omega (arith, high))
    ∙ sym (row_off
    (offset_plane (filters_of (g.V.FilterView.shape c.args.view.now) places units) p.c)
    p.size c.args.row _ p.width c.units.result.now f x y (sym k.size) k.wide.0 c.units.ensures.count
    (λ u lt. c.units.ensures.units u lt
    ∙ sym (known u c.args.row lt (omega (arith, k.rows, c.requires.row)) (omega arith) (omega arith)))
    (c.has_offset.ensures.none c.if-has_offset.false) column (omega (arith, low)) (omega (arith, high)))
