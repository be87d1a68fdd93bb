-- The flights so far are decoded.
use Rattle.std.proofs.Common.{length}
use Rattle.picture_plan.specs.Flights.{pictures_of}
use Rattle.decoder.specs.Headline.{change_of}
use Rattle.decoder.specs.Writing.{Passes}
use Rattle.decoder.proofs.writing.decode_flights.Given as goal

abbrev pub invariant-loop-flight : goal.invariant-loop-flight
invariant-loop-flight g l =
    Passes l.options.form l.options.hash (change_of g.O.Sink.contents g.O.Sink.faults l.fn.out l.out)
    (pictures_of l.fn.flights) l.fn.buffer (pictures_of l.left) l.buffer

abbrev pub decreases-loop-flight : goal.decreases-loop-flight
decreases-loop-flight g l = length l.left
