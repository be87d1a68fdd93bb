use Rattle.std.proofs.Common.{rules, ◌≡◌, ◌-◌, ◌*◌, min, arith}
use Rattle.spec_loop_filters.specs.Filters.{offset_plane}
use Rattle.spec_sample_adaptive_offset.specs.Plane.{offset_sample}
use Rattle.loop_filters.specs.Formats.{filters_of}
use Rattle.row_filters.specs.Lines.{end_line, first_line}
use Rattle.row_filters.proofs.Rows.{begins}
use Rattle.row_filters.proofs.Written.{among_before, among_behind, among_count, among_inside}
use Rattle.row_filters.proofs.row_steps.offset_among.Goals as goal

pub overflow_sub-behind : goal.overflow_sub-behind
overflow_sub-behind g c =
    let inside =
    begins (g.V.FilterView.shape c.args.view.now) c.args.component.now c.args.row c.requires.component c.requires.row in
    omega (arith, c.min-end.ensures, c.saturating_sub.ensures, inside)

pub slice_bounds-offset_lines-end : goal.slice_bounds-offset_lines-end
slice_bounds-offset_lines-end g c =
    let k = c.args.component.now in
    let above : c.min.result - c.min-2.result ≡ min (k.size * c.args.row) 4 - min (k.size * c.args.row) 1 =
    omega (arith, c.min.ensures, c.min-2.ensures) in
    let count : c.min-end.result - c.saturating_sub.result ≡ end_line k c.args.row 1 - first_line k c.args.row 1 =
    omega (arith, c.min-end.ensures, c.saturating_sub.ensures) in
    among_inside k c.args.row _ _ c.args.samples.now above count
    (begins (g.V.FilterView.shape c.args.view.now) k c.args.row c.requires.component c.requires.row)
    c.requires.samples

pub offset_lines-requires-clause-samples : goal.offset_lines-requires-clause-samples
offset_lines-requires-clause-samples g c =
    let k = c.args.component.now in
    let above : c.min.result - c.min-2.result ≡ min (k.size * c.args.row) 4 - min (k.size * c.args.row) 1 =
    omega (arith, c.min.ensures, c.min-2.ensures) in
    let count : c.min-end.result - c.saturating_sub.result ≡ end_line k c.args.row 1 - first_line k c.args.row 1 =
    omega (arith, c.min-end.ensures, c.saturating_sub.ensures) in
    among_count k c.args.row _ _ c.args.samples.now above count
    (begins (g.V.FilterView.shape c.args.view.now) k c.args.row c.requires.component c.requires.row)
    c.requires.samples

pub returns : goal.returns
returns g c = λ places units f are known held.
    let k = c.args.component.now in
    let shape = g.V.FilterView.shape c.args.view.now in
    let inside = begins shape k c.args.row c.requires.component c.requires.row in
    let above : c.min.result - c.min-2.result ≡ min (k.size * c.args.row) 4 - min (k.size * c.args.row) 1 =
    omega (arith, c.min.ensures, c.min-2.ensures) in
    let count : c.min-end.result - c.saturating_sub.result ≡ end_line k c.args.row 1 - first_line k c.args.row 1 =
    omega (arith, c.min-end.ensures, c.saturating_sub.ensures) in
    among_behind k c.args.row _ _ c.args.samples.now above count inside c.requires.samples
    (offset_sample (offset_plane (filters_of shape places units) k.c) f) c.offset_lines.new.samples (search rules)
    (c.offset_lines.ensures places units f are known
    (among_before k c.args.row _ _ c.args.samples.now above count inside c.requires.samples f held))
