-- The pictures at the places so far are written.
use Rattle.std.proofs.Common.{◌≡◌, drop}
use Rattle.spec_decoder.specs.Decoder.{out_at}
use Rattle.decoder.specs.Buffers.{buffer_of}
use Rattle.decoder.specs.Headline.{change_of}
use Rattle.decoder.specs.Writing.{Leaves}
use Rattle.decoder.proofs.buffer.Buffer.write.Given as goal

abbrev pub invariant-loop-place : goal.invariant-loop-place
invariant-loop-place g l = record {
  wrote : Leaves l.form (change_of g.O.Sink.contents g.O.Sink.faults l.fn.out l.out) l.fn.self.number
      (out_at (buffer_of l.fn.self) l.places) l.self.number
      (out_at (buffer_of l.fn.self) (drop l.place-index l.places));
  same : buffer_of l.self ≡ buffer_of l.fn.self;
}
