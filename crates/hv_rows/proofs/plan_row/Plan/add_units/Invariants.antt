use Rattle.std.proofs.Common.{◌≡◌}
use Rattle.hv_rows.proofs.plan_row.Plan.add_units.Given as goal

abbrev pub invariant-loop : goal.invariant-loop
invariant-loop l = l.framer.finished ≡ l.fn.framer.finished
