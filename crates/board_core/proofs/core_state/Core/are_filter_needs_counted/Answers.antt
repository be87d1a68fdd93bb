use Rattle.std.proofs.Common.{◌≡◌, ◌∙◌, true, false, sym, subst}
use Rattle.board_core.specs.Needs.{span_needs}
use Rattle.board_core.specs.States.{AreCounted}
use Rattle.board_core.proofs.Counting.{both_all, both_left, both_right}
use Rattle.board_core.proofs.core_state.Core.are_filter_needs_counted.Goals as goal

pub returns-then-is_span_counted : goal.returns-then-is_span_counted
returns-then-is_span_counted c =
    let plan = c.args.self.now.plan in
    let s = c.args.self.now.state in
    let first = span_needs plan c.filter_rows-rows.result.0 in
    let second = span_needs plan c.filter_rows-rows.result.1 in
    let e = c.filter_rows-rows.ensures plan in
    let first_counted : AreCounted plan s first = c.is_span_counted.ensures.0 c.if-is_span_counted.true in (
      λ t. subst (AreCounted plan s) e
          (both_all plan s first second first_counted (c.is_span_counted-then-is_span_counted.ensures.0 t)),
      λ all. c.is_span_counted-then-is_span_counted.ensures.1
          (both_right plan s first second (subst (AreCounted plan s) (sym e) all)),
    )

pub returns-else-is_span_counted : goal.returns-else-is_span_counted
returns-else-is_span_counted c =
    let plan = c.args.self.now.plan in
    let s = c.args.self.now.state in
    let first = span_needs plan c.filter_rows-rows.result.0 in
    let second = span_needs plan c.filter_rows-rows.result.1 in
    let e = c.filter_rows-rows.ensures plan in (
      λ t. let e : false ≡ true = sym c.if-is_span_counted.false ∙ t in cc,
      λ all. c.is_span_counted.ensures.1 (both_left plan s first second (subst (AreCounted plan s) (sym e) all)),
    )
