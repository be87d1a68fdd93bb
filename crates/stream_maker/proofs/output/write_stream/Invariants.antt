-- The sets and the pictures so far are written.
use Rattle.stream_maker.proofs.Writings.{Going}
use Rattle.stream_maker.proofs.output.write_stream.Given as goal

abbrev pub invariant-loop-j : goal.invariant-loop-j
invariant-loop-j g l =
    Going g.O.Sink.contents g.O.Sink.faults l.turned l.fn.out l.out l.seed l.pictures l.j l.making
