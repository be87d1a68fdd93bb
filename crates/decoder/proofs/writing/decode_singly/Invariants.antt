-- The pictures so far are written.
use Rattle.std.proofs.Common.{drop}
use Rattle.decoder.specs.Headline.{change_of}
use Rattle.decoder.specs.Writing.{Passes}
use Rattle.decoder.proofs.writing.decode_singly.Given as goal

abbrev pub invariant-loop-picture : goal.invariant-loop-picture
invariant-loop-picture g l =
    Passes l.options.form l.options.hash (change_of g.O.Sink.contents g.O.Sink.faults l.fn.out l.out) l.pictures
    l.fn.buffer (drop l.picture-index l.pictures) l.buffer
