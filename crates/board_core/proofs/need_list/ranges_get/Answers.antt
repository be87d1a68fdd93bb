use Rattle.std.proofs.Common.{ℕ, ◌≡◌, ◌∙◌, ◌+◌, ◌-◌, List, sym, ap, arith, get_or, drop, slice_get, length}
use Rattle.std.specs.List.{flat_map}
use Rattle.hv_base.specs.declared.line.Line.{Line}
use Rattle.flight_plan.specs.declared.row_range.RowRange.{RowRange}
use Rattle.flight_plan.specs.declared.row_range.Reference.TheVariants.{Base}
use Rattle.board_core.specs.Needs.{range_needs}
use Rattle.board_core.proofs.NeedList.{left_item, ranges_from, right_item}
use Rattle.board_core.proofs.need_list.ranges_get.Goals as goal

none : RowRange
none = record { picture = Base 0; first = 0; last = 0 }

pub returns-then-left-rows : goal.returns-then-left-rows
unfolding none
returns-then-left-rows c =
    let f : RowRange → List (Line × ℕ) = range_needs c.args.plan.now in
    let ranges = c.args.ranges.now in
    let k = c.loop-range.range-index in
    let here : List (Line × ℕ) = f (get_or ranges k none) in
    let rest : List (Line × ℕ) = flat_map f (drop (k + 1) ranges) in
    let few : c.rows_in-rows.result ≡ length here = c.rows_in-rows.ensures in
    let inside = c.if-left-rows.true in
    let item : c.range_get.result ≡ slice_get here c.loop-range.left = c.range_get.ensures in
    item ∙ sym (left_item here rest c.loop-range.left (omega arith))
    ∙ sym (ap (λ needs. slice_get needs c.loop-range.left) (ranges_from f ranges k none c.loop-range-test.true))
    ∙ sym c.loop-range.invariant

pub loop-range-preserved : goal.loop-range-preserved
unfolding none
loop-range-preserved c =
    let f : RowRange → List (Line × ℕ) = range_needs c.args.plan.now in
    let ranges = c.args.ranges.now in
    let k = c.loop-range.range-index in
    let here : List (Line × ℕ) = f (get_or ranges k none) in
    let rest : List (Line × ℕ) = flat_map f (drop (k + 1) ranges) in
    let few : c.rows_in-rows.result ≡ length here = c.rows_in-rows.ensures in
    let past = c.if-left-rows.false in
    c.loop-range.invariant
    ∙ ap (λ needs. slice_get needs c.loop-range.left) (ranges_from f ranges k none c.loop-range-test.true)
    ∙ right_item here rest c.loop-range.left (c.loop-range.left - c.rows_in-rows.result) (omega arith)
