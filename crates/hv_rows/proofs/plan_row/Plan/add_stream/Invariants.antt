use Rattle.std.proofs.Common.{◌≡◌, false}
use Rattle.hv_rows.proofs.plan_row.Plan.add_stream.Given as goal

abbrev pub invariant-loop-bytes : goal.invariant-loop-bytes
invariant-loop-bytes l = l.framer.finished ≡ false
