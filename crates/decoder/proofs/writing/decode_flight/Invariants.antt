-- The pictures so far are decoded.
use Rattle.std.proofs.Common.{length}
use Rattle.decoder.specs.Headline.{change_of}
use Rattle.decoder.specs.Writing.{Passes}
use Rattle.decoder.proofs.writing.decode_flight.Given as goal

abbrev pub invariant-parts : goal.invariant-parts
invariant-parts g l =
    Passes l.options.form l.options.hash (change_of g.O.Sink.contents g.O.Sink.faults l.fn.out l.out)
    l.fn.flight l.fn.buffer l.left l.buffer

abbrev pub decreases-parts : goal.decreases-parts
decreases-parts g l = length l.left
