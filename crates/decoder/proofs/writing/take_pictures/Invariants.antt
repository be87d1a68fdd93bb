-- The pictures so far are written, and the flight was decoded to the others.
use Rattle.std.proofs.Common.{drop}
use Rattle.decoder.specs.Headline.{change_of}
use Rattle.decoder.specs.Writing.{Passes}
use Rattle.decoder.proofs.Leaving.{FollowsFrom}
use Rattle.decoder.proofs.writing.take_pictures.Given as goal

abbrev pub invariant-loop-picture : goal.invariant-loop-picture
invariant-loop-picture g l = record {
  passes : Passes l.options.form l.options.hash (change_of g.O.Sink.contents g.O.Sink.faults l.fn.out l.out) l.pictures
      l.fn.buffer (drop l.picture-index l.pictures) l.buffer;
  left : FollowsFrom l.buffer (drop l.picture-index l.pictures) l.flight;
}
