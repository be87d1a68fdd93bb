-- What was read is what the session stands for.
use Rattle.std.proofs.Common.{◌<◌, length}
use Rattle.decoder.specs.Headline.{change_of}
use Rattle.decoder.specs.Session.{HasRead}
use Rattle.decoder.proofs.decoding.decode_pieces.Given as goal

abbrev pub invariant-loop : goal.invariant-loop
invariant-loop g l = record {
  read : HasRead l.fn.session.options l.session (change_of g.S.Source.left g.S.Source.faults l.fn.src l.src)
      (change_of g.O.Sink.contents g.O.Sink.faults l.fn.out l.out);
  room : 0 < length l.piece;
}
