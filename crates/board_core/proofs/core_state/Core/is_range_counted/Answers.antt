use Rattle.std.proofs.Common.{◌≡◌, ◌∙◌, ap, sym, subst}
use Rattle.flight_plan.specs.declared.row_range.Reference.{Reference}
use Rattle.flight_plan.specs.declared.row_range.Reference.TheVariants.{Flight}
use Rattle.board_core.specs.declared.phase_rows.PhaseRows.{PhaseRows}
use Rattle.board_core.specs.Needs.{reference_needs, rows_needs}
use Rattle.board_core.specs.States.{AreCounted}
use Rattle.board_core.proofs.core_state.Core.is_range_counted.Goals as goal

pub returns-in-Flight : goal.returns-in-Flight
returns-in-Flight c =
    let plan = c.args.self.now.plan in
    let s = c.args.self.now.state in
    let range = c.args.range in
    let is : range.picture ≡ Flight c.in-Flight.picture = c.in-Flight.is in
    let e =
    ap (λ (r : PhaseRows). rows_needs plan r.phase r.picture r.first r.last) c.final_rows.ensures
    ∙ sym (ap (λ (r : Reference). reference_needs plan r range.first range.last) is) in (
      λ t. subst (AreCounted plan s) e (c.are_rows_counted.ensures.0 t),
      λ all. c.are_rows_counted.ensures.1 (subst (AreCounted plan s) (sym e) all),
    )
