use Rattle.std.proofs.Common.{drop, ◌+◌, subst, sym}
use Rattle.decoder.specs.Headline.{change_of}
use Rattle.decoder.specs.Writing.{WritesFirst}
use Rattle.decoder.proofs.Leaving.{left-first}
use Rattle.decoder.proofs.Writes.{exit-is, passes-none, passes-one, over-one}
use Rattle.decoder.proofs.writing.take_pictures.Goals as goal

pub loop-picture-init : goal.loop-picture-init
loop-picture-init g c = record {
  passes =
      passes-none g.O.Sink.contents g.O.Sink.faults c.args.options.form c.args.options.hash c.args.out.now
      c.args.pictures.now c.args.buffer.now;
  left = c.requires;
}

pub loop-picture-preserved : goal.loop-picture-preserved
loop-picture-preserved g c =
    let d = left-first c.args.pictures.now c.loop-picture.picture-index c.picture-item.result c.loop-picture.buffer
    c.loop-picture.flight c.loop-picture-test.true c.picture-item.is c.loop-picture.invariant.left in
    record {
      passes =
          passes-one g.O.Sink.contents g.O.Sink.faults c.args.options.form c.args.options.hash c.args.out.now
          c.loop-picture.out c.take_picture.new.out
          c.args.pictures.now c.args.buffer.now c.loop-picture.buffer c.take_picture.new.buffer
          c.loop-picture.picture-index c.picture-item.result
          c.loop-picture-test.true c.picture-item.is c.loop-picture.invariant.passes
          (c.in_ok-take_picture.ensures.takes (drop (c.loop-picture.picture-index + 1) c.args.pictures.now) d);
      left =
          c.in_ok-take_picture.ensures.left (drop (c.loop-picture.picture-index + 1) c.args.pictures.now) d;
    }

pub returns-in_err-take_picture : goal.returns-in_err-take_picture
returns-in_err-take_picture g c =
    let d = left-first c.args.pictures.now c.loop-picture.picture-index c.picture-item.result c.loop-picture.buffer
    c.loop-picture.flight c.loop-picture-test.true c.picture-item.is c.loop-picture.invariant.left in
    subst (WritesFirst c.args.options.form c.args.options.hash
    (change_of g.O.Sink.contents g.O.Sink.faults c.args.out.now c.take_picture.new.out)
    c.args.pictures.now c.args.buffer.now c.take_picture.new.buffer)
    (sym (exit-is c.from_residual.result c.in_err-take_picture.field-0.0 c.from_residual.ensures.1))
    (over-one g.O.Sink.contents g.O.Sink.faults c.args.options.form c.args.options.hash c.args.out.now
    c.loop-picture.out c.take_picture.new.out
    c.args.pictures.now c.args.buffer.now c.loop-picture.buffer c.loop-picture.picture-index
    c.picture-item.result c.in_err-take_picture.field-0.0
    c.loop-picture-test.true c.picture-item.is c.loop-picture.invariant.passes
    (c.in_err-take_picture.ensures.takes (drop (c.loop-picture.picture-index + 1) c.args.pictures.now) d))
