-- What is done of the piece is gained, and the count of faults is as before.
use Rattle.std.proofs.Common.{length, take, ◌≡◌, ◌-◌, ◌≤◌}
use Rattle.hv_io.specs.Streams.{Gains}
use Rattle.hv_io.proofs.transfers.write_all.Given as goal

abbrev pub invariant-loop-done : goal.invariant-loop-done
invariant-loop-done g l = record {
  within : l.done ≤ length l.piece;
  gained : Gains (g.O.Sink.contents l.fn.out) (g.O.Sink.contents l.out) (take l.done l.piece);
  quiet : g.O.Sink.faults l.out ≡ g.O.Sink.faults l.fn.out;
}

abbrev pub decreases-loop-done : goal.decreases-loop-done
decreases-loop-done g l = length l.piece - l.done
