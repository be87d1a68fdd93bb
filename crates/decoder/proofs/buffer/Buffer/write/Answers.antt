use Rattle.std.proofs.Common.{true, subst, sym, refl, get_or, ◌∙◌}
use Rattle.spec_decoder.specs.Decoder.{out_at}
use Rattle.decoder.specs.Buffers.{buffer_of}
use Rattle.decoder.specs.Headline.{change_of}
use Rattle.decoder.specs.Writing.{GoOut}
use Rattle.decoder.proofs.Writes.{breaks-of, exit-is, leaves-end, leaves-none, leaves-one, leaves-over, went-of}
use Rattle.decoder.proofs.buffer.Buffer.write.Goals as goal

pub loop-place-init : goal.loop-place-init
loop-place-init g c = record {
  wrote = leaves-none g.O.Sink.contents g.O.Sink.faults c.args.form c.args.out.now c.args.self.now.number
      (out_at (buffer_of c.args.self.now) c.args.places.now);
  same = refl;
}

pub loop-place-preserved : goal.loop-place-preserved
loop-place-preserved g c = record {
  wrote = leaves-one g.O.Sink.contents g.O.Sink.faults c.args.form c.args.out.now c.loop-place.out
      c.write_place.new.out c.args.self.now.number c.loop-place.self.number c.write_place.new.self.number
      (buffer_of c.args.self.now) (out_at (buffer_of c.args.self.now) c.args.places.now) c.args.places.now
      c.loop-place.place-index (get_or c.args.places.now c.loop-place.place-index 0) 0
      c.loop-place-test.true refl c.loop-place.invariant.wrote
      (went-of g.O.Sink.contents g.O.Sink.faults c.args.form c.loop-place.out c.write_place.new.out
      c.loop-place.self.number c.write_place.new.self.number
      (get_or c.args.places.now c.loop-place.place-index 0) (buffer_of c.loop-place.self) (buffer_of c.args.self.now)
      c.loop-place.invariant.same c.in_ok-write_place.ensures.wrote);
  same = c.in_ok-write_place.ensures.same ∙ c.loop-place.invariant.same;
}

pub returns-in_err-write_place : goal.returns-in_err-write_place
returns-in_err-write_place g c = record {
  wrote =
      subst (GoOut c.args.form (change_of g.O.Sink.contents g.O.Sink.faults c.args.out.now c.write_place.new.out)
      c.args.self.now.number c.write_place.new.self.number (out_at (buffer_of c.args.self.now) c.args.places.now))
      (sym (exit-is c.from_residual.result c.in_err-write_place.field-0.0 c.from_residual.ensures.1))
      (leaves-over g.O.Sink.contents g.O.Sink.faults c.args.form c.args.out.now c.loop-place.out
      c.write_place.new.out c.args.self.now.number c.loop-place.self.number
      (buffer_of c.args.self.now) (out_at (buffer_of c.args.self.now) c.args.places.now) c.args.places.now
      c.loop-place.place-index (get_or c.args.places.now c.loop-place.place-index 0) 0
      c.in_err-write_place.field-0.0
      c.loop-place-test.true refl c.loop-place.invariant.wrote
      (breaks-of g.O.Sink.contents g.O.Sink.faults c.args.form c.loop-place.out c.write_place.new.out
      c.loop-place.self.number
      (get_or c.args.places.now c.loop-place.place-index 0) (buffer_of c.loop-place.self) (buffer_of c.args.self.now)
      c.in_err-write_place.field-0.0 c.loop-place.invariant.same c.in_err-write_place.ensures.wrote));
  same = c.in_err-write_place.ensures.same ∙ c.loop-place.invariant.same;
}

pub returns : goal.returns
returns g c = record {
  wrote = leaves-end g.O.Sink.contents g.O.Sink.faults c.args.form c.args.out.now c.loop-place.out
      c.args.self.now.number c.loop-place.self.number (buffer_of c.args.self.now)
      (out_at (buffer_of c.args.self.now) c.args.places.now) c.args.places.now c.loop-place.place-index
      c.loop-place-test.false c.loop-place.invariant.wrote;
  same = c.loop-place.invariant.same;
}
