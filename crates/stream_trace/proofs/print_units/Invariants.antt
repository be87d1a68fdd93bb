use Rattle.std.proofs.Common.{◌≡◌}
use Rattle.stream_trace.proofs.print_units.Given as goal

abbrev pub invariant-loop : goal.invariant-loop
invariant-loop g l = l.framer.finished ≡ l.fn.framer.finished
