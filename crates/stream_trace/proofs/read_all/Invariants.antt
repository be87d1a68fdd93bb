use Rattle.std.proofs.Common.{◌≡◌, false}
use Rattle.stream_trace.proofs.read_all.Given as goal

abbrev pub invariant-loop : goal.invariant-loop
invariant-loop g l = l.framer.finished ≡ false
