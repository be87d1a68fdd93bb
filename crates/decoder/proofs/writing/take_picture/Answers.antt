use Rattle.std.proofs.Common.{subst, sym}
use Rattle.decoder.specs.Headline.{change_of}
use Rattle.decoder.specs.Writing.{TakesPicture}
use Rattle.decoder.proofs.Leaving.{left-behind, on-same}
use Rattle.decoder.proofs.Writes.{began, exit-is, picture-before, picture-behind, picture-refused, picture-taken}
use Rattle.decoder.proofs.writing.take_picture.Goals as goal

pub returns-in_err-write-clause-takes : goal.returns-in_err-write-clause-takes
returns-in_err-write-clause-takes g c = λ later d.
    subst (TakesPicture c.args.options.form c.args.options.hash
    (change_of g.O.Sink.contents g.O.Sink.faults c.args.out.now c.write.new.out) c.args.picture.now
    c.args.buffer.now c.write.new.self)
    (sym (exit-is c.from_residual.result c.in_err-write.field-0.0 c.from_residual.ensures.1))
    (picture-before g.O.Sink.contents g.O.Sink.faults c.args.options.form c.args.options.hash c.args.out.now
    c.write.new.out c.args.picture.now c.args.buffer.now c.as_slice.result.now c.in_err-write.field-0.0
    c.as_slice.ensures c.in_err-write.ensures.wrote)

pub returns-in_err-enter-clause-takes : goal.returns-in_err-enter-clause-takes
returns-in_err-enter-clause-takes g c = λ later d.
    subst (TakesPicture c.args.options.form c.args.options.hash
    (change_of g.O.Sink.contents g.O.Sink.faults c.args.out.now c.write.new.out) c.args.picture.now
    c.args.buffer.now c.enter.new.self)
    (sym (exit-is c.from_residual-in_err-enter.result c.in_err-enter.field-0.0
    c.from_residual-in_err-enter.ensures.1))
    (picture-refused g.O.Sink.contents g.O.Sink.faults c.args.options.form c.args.options.hash c.args.out.now
    c.write.new.out c.args.picture.now c.args.buffer.now c.write.new.self c.in_err-enter.field-0.0
    (began g.O.Sink.contents g.O.Sink.faults c.args.options.form c.args.out.now c.write.new.out
    c.args.picture.now c.args.buffer.now c.write.new.self c.as_slice.result.now c.as_slice.ensures
    c.in_ok-write.ensures.wrote c.in_ok-write.ensures.same)
    (c.in_err-enter.ensures.enters later
    (on-same c.args.picture.now later c.args.buffer.now c.write.new.self c.args.flight.now
    c.in_ok-write.ensures.same d)))

pub returns-in_err-write-2-clause-takes : goal.returns-in_err-write-2-clause-takes
returns-in_err-write-2-clause-takes g c = λ later d.
    subst (TakesPicture c.args.options.form c.args.options.hash
    (change_of g.O.Sink.contents g.O.Sink.faults c.args.out.now c.write-2.new.out)
    c.args.picture.now c.args.buffer.now c.write-2.new.self)
    (sym (exit-is c.from_residual-in_err-write-2.result c.in_err-write-2.field-0.0
    c.from_residual-in_err-write-2.ensures.1))
    (picture-behind g.O.Sink.contents g.O.Sink.faults c.args.options.form c.args.options.hash c.args.out.now
    c.write.new.out c.write-2.new.out
    c.args.picture.now c.args.buffer.now c.write.new.self c.enter.new.self c.as_slice-2.result.now
    c.in_err-write-2.field-0.0
    (began g.O.Sink.contents g.O.Sink.faults c.args.options.form c.args.out.now c.write.new.out
    c.args.picture.now c.args.buffer.now c.write.new.self c.as_slice.result.now c.as_slice.ensures
    c.in_ok-write.ensures.wrote c.in_ok-write.ensures.same)
    (record {
      enters = c.in_ok-enter.ensures.enters later
          (on-same c.args.picture.now later c.args.buffer.now c.write.new.self c.args.flight.now
          c.in_ok-write.ensures.same d);
      number = c.in_ok-enter.ensures.number;
    })
    c.as_slice-2.ensures c.in_err-write-2.ensures.wrote)

pub returns-clause-takes : goal.returns-clause-takes
returns-clause-takes g c = λ later d.
    picture-taken g.O.Sink.contents g.O.Sink.faults c.args.options.form c.args.options.hash c.args.out.now
    c.write.new.out c.write-2.new.out c.args.picture.now
    c.args.buffer.now c.write.new.self c.enter.new.self c.write-2.new.self c.keep.new.self
    c.as_slice-2.result.now c.as_slice-3.result.now
    (began g.O.Sink.contents g.O.Sink.faults c.args.options.form c.args.out.now c.write.new.out
    c.args.picture.now c.args.buffer.now c.write.new.self c.as_slice.result.now c.as_slice.ensures
    c.in_ok-write.ensures.wrote c.in_ok-write.ensures.same)
    (record {
      enters = c.in_ok-enter.ensures.enters later
          (on-same c.args.picture.now later c.args.buffer.now c.write.new.self c.args.flight.now
          c.in_ok-write.ensures.same d);
      number = c.in_ok-enter.ensures.number;
    })
    c.as_slice-2.ensures c.in_ok-write-2.ensures.wrote c.in_ok-write-2.ensures.same
    c.as_slice-3.ensures c.keep.ensures.kept c.keep.ensures.number

pub returns-clause-left : goal.returns-clause-left
returns-clause-left g c = λ later d.
    left-behind c.args.picture.now later c.enter.new.self c.write-2.new.self c.keep.new.self c.enter.new.flight
    c.as_slice-3.result.now c.as_slice-3.ensures c.in_ok-write-2.ensures.same c.keep.ensures.kept
    (c.in_ok-enter.ensures.left later
    (on-same c.args.picture.now later c.args.buffer.now c.write.new.self c.args.flight.now
    c.in_ok-write.ensures.same d))
