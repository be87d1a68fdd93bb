use Rattle.std.proofs.Common.{rules, ◌≤◌, ◌+◌, ◌-◌, ◌*◌, ℕ, sym, ap, ◌∙◌, arith}
use Rattle.spec_loop_filters.specs.Filters.{offset_plane}
use Rattle.loop_filters.specs.Formats.{filters_of}
use Rattle.loop_filters.specs.Rows.{deblocked_of, filtered_of}
use Rattle.loop_filters.proofs.RowParts.{row_begins}
use Rattle.loop_filters.proofs.Stages.{offsets_bounded, offsets_stage, row_after, row_back, row_before, row_first}
use Rattle.loop_filters.proofs.Stages.{rows_apart, same_stage, stands_next}
use Rattle.loop_filters.proofs.rows.filter_row.Goals as goal

pub filter_edges-requires-clause-row : goal.filter_edges-requires-clause-row
filter_edges-requires-clause-row g c =
    row_begins c.args.component.now.size c.args.row c.args.component.now.rows c.args.component.now.height
    c.requires.component.high.1 c.requires.row

pub returns-then-row-gt0 : goal.returns-then-row-gt0
returns-then-row-gt0 g c = λ before between.
    let k = c.requires.component in
    let begins =
    row_begins c.args.component.now.size c.args.row c.args.component.now.rows c.args.component.now.height
    k.high.1 c.requires.row in
    let above = row_before c.args.component.now.size c.args.row c.if-row-gt0.true in
    let after = row_after c.args.component.now.size c.args.row in
    let back = row_back c.args.component.now.size c.args.row in
    let room : c.args.component.now.size * (c.args.row - 1) + c.args.component.now.size + 8
    ≤ c.args.component.now.size * c.args.row + c.args.component.now.size = omega (arith, above, k.size_few.0) in
    let edges =
    c.filter_edges.ensures.value (c.args.component.now.size * (c.args.row - 1)) before
    (filtered_of (g.V.FilterView.shape c.args.view.now) c.args.component.now (g.V.PlaceView.place_at c.args.view.now)
    (g.V.FilterView.unit_at c.args.view.now) before)
    (rows_apart c.args.component.now.size c.args.row k.size_few.0) between.stage in
    let stands =
    stands_next c.args.component.now (c.args.row - 1)
    (c.args.component.now.size * c.args.row + c.args.component.now.size) (g.V.PlaceView.place_at c.args.view.now) before
    (filtered_of (g.V.FilterView.shape c.args.view.now) c.args.component.now (g.V.PlaceView.place_at c.args.view.now)
    (g.V.FilterView.unit_at c.args.view.now) before)
    c.filter_edges.new.samples c.args.last.now room edges between.above in
    let value =
    c.offset_lines.ensures.value (deblocked_of c.args.component.now (g.V.PlaceView.place_at c.args.view.now) before)
    stands in
    record {
      stage =
          same_stage c.args.component.now (g.V.PlaceView.place_at c.args.view.now) before _ _ _ _ _
          c.offset_lines.new.samples (above ∙ sym back) (sym after)
          (offsets_stage c.args.component.now (c.args.component.now.size * (c.args.row - 1)) c.args.component.now.size
          (c.args.component.now.size * c.args.row + c.args.component.now.size)
          (g.V.PlaceView.place_at c.args.view.now) before _ c.filter_edges.new.samples c.offset_lines.new.samples
          room edges value);
      above = λ some x column.
          c.offset_lines.ensures.last
          (deblocked_of c.args.component.now (g.V.PlaceView.place_at c.args.view.now) before) stands x column
          (omega (arith, above, begins))
          ∙ ap (λ (k : ℕ). deblocked_of c.args.component.now (g.V.PlaceView.place_at c.args.view.now) before x k)
          (omega (arith, above, back));
      bounded =
          offsets_bounded c.args.component.now (c.args.row - 1)
          (offset_plane (filters_of (g.V.FilterView.shape c.args.view.now) (g.V.PlaceView.place_at c.args.view.now)
          (g.V.FilterView.unit_at c.args.view.now)) c.args.component.now.c)
          (deblocked_of c.args.component.now (g.V.PlaceView.place_at c.args.view.now) before)
          c.filter_edges.new.samples c.offset_lines.new.samples c.args.last.now (sym k.depth) (search rules) stands
          value c.filter_edges.ensures.bounded;
    }

pub returns-else-row-gt0 : goal.returns-else-row-gt0
returns-else-row-gt0 g c = λ before between.
    let k = c.requires.component in
    let after = row_after c.args.component.now.size c.args.row in
    let back = row_back c.args.component.now.size c.args.row in
    let first = row_first c.args.component.now.size c.args.row c.if-row-gt0.false in
    let none = row_first c.args.component.now.size (c.args.row - 1) (omega (arith, c.if-row-gt0.false)) in
    record {
      stage =
          same_stage c.args.component.now (g.V.PlaceView.place_at c.args.view.now) before _ _ _ _ _
          c.filter_edges.new.samples (none ∙ sym (back ∙ first)) (sym after)
          (c.filter_edges.ensures.value (c.args.component.now.size * (c.args.row - 1)) before _
          (rows_apart c.args.component.now.size c.args.row k.size_few.0) between.stage);
      above = λ some. absurd (omega (arith, some, back, first));
      bounded = c.filter_edges.ensures.bounded;
    }
