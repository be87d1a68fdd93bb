use Rattle.std.proofs.Common.{◌≡◌, ◌∙◌, true, false, ap, arith}
use Rattle.flight_plan.specs.Flight.{FlightRows, picture_at}
use Rattle.hv_base.specs.declared.line.Line.{Line}
use Rattle.board_core.specs.Places.{full_count, line_of}
use Rattle.board_core.specs.States.{count_of}
use Rattle.board_core.proofs.Counting.{rows_each}
use Rattle.board_core.proofs.core_state.Core.are_rows_counted.Goals as goal

pub returns-then-count-full_count_at : goal.returns-then-count-full_count_at
returns-then-count-full_count_at c =
    let a = c.args in
    let plan = a.self.now.plan in
    let s = a.self.now.state in
    let at : Line = line_of a.rows.phase a.rows.picture c.loop-row.row in
    let rows = ap (λ (p : FlightRows). (picture_at p a.rows.picture).rows) c.plan-plan.ensures in (
      λ t. let e : false ≡ true = t in cc,
      λ all.
          let each =
          rows_each plan s a.rows.phase a.rows.picture a.rows.first a.rows.last all c.loop-row.row (omega arith)
          (omega (arith, rows)) in
          let count : c.count.result ≡ count_of plan s at =
          c.count.ensures ∙ ap (count_of plan s) c.line_of-line.ensures in
          let full : c.full_count_at.result ≡ full_count plan at =
          c.full_count_at.ensures.value
          ∙ (ap (λ (p : FlightRows). full_count p c.line_of-line.result) c.plan-plan.ensures
          ∙ ap (full_count plan) c.line_of-line.ensures) in
          absurd (omega (arith, full, each, count, c.if-count-full_count_at.true)),
    )
