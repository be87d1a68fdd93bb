use Rattle.std.proofs.Common.{ℕ, ◌≡◌, ◌≤◌, true, false, inl, inr, refl, subst, ap, sym, ◌∙◌, arith, get_or}
use Rattle.std.proofs.lemmas.Bool.{cases_lt}
use Rattle.std.proofs.lemmas.List.{get_or_default}
use Rattle.hv_base.specs.declared.line.Line.{Line}
use Rattle.flight_plan.specs.declared.row_range.RowRange.{RowRange}
use Rattle.flight_plan.specs.declared.row_range.Reference.TheVariants.{Base}
use Rattle.board_core.specs.Needs.{range_needs}
use Rattle.board_core.specs.States.{AreCounted, count_of}
use Rattle.board_core.proofs.Counting.{pieces_all, pieces_each}
use Rattle.board_core.proofs.core_state.Core.are_ranges_counted.Goals as goal

none : RowRange
none = record { picture = Base 0; first = 0; last = 0 }

pub returns-then-not-is_range_counted : goal.returns-then-not-is_range_counted
unfolding none
returns-then-not-is_range_counted c =
    let plan = c.args.self.now.plan in
    let s = c.args.self.now.state in
    let P : Line × ℕ → Type 0 = λ need. need.1 ≤ count_of plan s need.0 in (
      λ t. let e : false ≡ true = t in cc,
      λ all.
          let here =
          pieces_each P (range_needs plan) c.args.ranges.now all c.loop-range.range-index none c.loop-range-test.true in
          sym c.if-not-is_range_counted.true ∙ c.is_range_counted.ensures.1 here,
    )

pub loop-range-preserved : goal.loop-range-preserved
unfolding none
loop-range-preserved c k d inside =
    let plan = c.args.self.now.plan in
    let s = c.args.self.now.state in
    let i = c.loop-range.range-index in
    let Each : RowRange → Type 0 = λ range. AreCounted plan s (range_needs plan range) in
    elim (cases_lt k i) [
      | inl lower ↦ c.loop-range.invariant k d lower
      | inr upper ↦ let same : i ≡ k = omega arith in
          let now : Each (get_or c.args.ranges.now i none) =
          c.is_range_counted.ensures.0 c.if-not-is_range_counted.false in
          let e : get_or c.args.ranges.now i none ≡ get_or c.args.ranges.now k d =
          get_or_default c.args.ranges.now i none d c.loop-range-test.true
          ∙ ap (λ n. get_or c.args.ranges.now n d) same in
          subst Each e now
    ]

pub returns : goal.returns
returns c =
    let plan = c.args.self.now.plan in
    let s = c.args.self.now.state in
    let P : Line × ℕ → Type 0 = λ need. need.1 ≤ count_of plan s need.0 in (
      λ t. pieces_all P (range_needs plan) c.args.ranges.now (λ k d inside. c.loop-range.invariant k d (omega arith)),
      λ all. refl,
    )
