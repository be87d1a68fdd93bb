use Rattle.std.proofs.Common.{◌≡◌, ◌-◌, ◌*◌, ℕ, subst, arith}
use Rattle.deblock.specs.Windows.{at}
use Rattle.loop_filters.specs.Rows.{IsBetween, deblocked_of, filtered_of}
use Rattle.loop_filters.proofs.Stages.{offsets_last, row_before, row_first, some_rows, stage_none, stands_last}
use Rattle.loop_filters.proofs.rows.filter_rows.Goals as goal

pub loop-row-init : goal.loop-row-init
loop-row-init g c =
    let first = row_first c.args.component.now.size 0 (omega arith) in
    let none = row_first c.args.component.now.size (0 - 1) (omega arith) in
    record {
      stage = stage_none c.args.component.now (g.V.PlaceView.place_at c.args.view.now) _ _ _ c.args.samples.now none
          first;
      above = λ some. absurd (omega (arith, some, none));
      bounded = c.requires.bounded;
    }

pub filter_row-requires-clause-bounded : goal.filter_row-requires-clause-bounded
filter_row-requires-clause-bounded g c = c.loop-row.invariant.bounded

pub loop-row-preserved : goal.loop-row-preserved
loop-row-preserved g c =
    c.filter_row.ensures (at c.args.component.now.width c.args.samples.now) c.loop-row.invariant

pub overflow_sub-component : goal.overflow_sub-component
overflow_sub-component g c =
    let k = c.requires.component in
    let some =
    some_rows c.args.component.now.size c.args.component.now.rows c.args.component.now.height k.is_plane.height.0
    k.high.0 in
    omega (arith, some)

pub offset_lines-requires-clause-row : goal.offset_lines-requires-clause-row
offset_lines-requires-clause-row g c =
    let k = c.requires.component in
    let some =
    some_rows c.args.component.now.size c.args.component.now.rows c.args.component.now.height k.is_plane.height.0
    k.high.0 in
    omega (arith, some)

pub returns : goal.returns
returns g c =
    let k = c.requires.component in
    let some =
    some_rows c.args.component.now.size c.args.component.now.rows c.args.component.now.height k.is_plane.height.0
    k.high.0 in
    let same : c.loop-row.row ≡ c.args.component.now.rows = omega (arith, c.loop-row-test.false) in
    let above = row_before c.args.component.now.size c.args.component.now.rows some in
    let between =
    subst (λ (r : ℕ). IsBetween (g.V.FilterView.shape c.args.view.now) c.args.component.now
    (g.V.PlaceView.place_at c.args.view.now) (g.V.FilterView.unit_at c.args.view.now)
    (at c.args.component.now.width c.args.samples.now) r c.loop-row.samples c.loop-row.last) same
    c.loop-row.invariant in
    offsets_last c.args.component.now (c.args.component.now.size * (c.args.component.now.rows - 1))
    c.args.component.now.size (c.args.component.now.size * c.args.component.now.rows)
    (g.V.PlaceView.place_at c.args.view.now) (at c.args.component.now.width c.args.samples.now)
    (filtered_of (g.V.FilterView.shape c.args.view.now) c.args.component.now (g.V.PlaceView.place_at c.args.view.now)
    (g.V.FilterView.unit_at c.args.view.now) (at c.args.component.now.width c.args.samples.now))
    c.loop-row.samples c.offset_lines.new.samples (omega (arith, above, k.high.0)) between.stage
    (c.offset_lines.ensures.value
    (deblocked_of c.args.component.now (g.V.PlaceView.place_at c.args.view.now)
    (at c.args.component.now.width c.args.samples.now))
    (stands_last c.args.component.now (c.args.component.now.rows - 1)
    (c.args.component.now.size * c.args.component.now.rows) (g.V.PlaceView.place_at c.args.view.now)
    (at c.args.component.now.width c.args.samples.now) _ c.loop-row.samples c.loop-row.last k.high.0 between.stage
    between.above))
