use Rattle.std.proofs.Common.{subst, sym}
use Rattle.decoder.specs.Headline.{change_of}
use Rattle.decoder.specs.Writing.{WritesFirst}
use Rattle.decoder.proofs.Writes.{exit-is, over-one, passes-none, passes-one}
use Rattle.decoder.proofs.writing.decode_singly.Goals as goal

pub loop-picture-init : goal.loop-picture-init
loop-picture-init g c =
    passes-none g.O.Sink.contents g.O.Sink.faults c.args.options.form c.args.options.hash c.args.out.now
    c.args.pictures.now c.args.buffer.now

pub loop-picture-preserved : goal.loop-picture-preserved
loop-picture-preserved g c =
    passes-one g.O.Sink.contents g.O.Sink.faults c.args.options.form c.args.options.hash c.args.out.now
    c.loop-picture.out c.decode_picture.new.out
    c.args.pictures.now c.args.buffer.now c.loop-picture.buffer c.decode_picture.new.buffer
    c.loop-picture.picture-index c.picture-item.result
    c.loop-picture-test.true c.picture-item.is c.loop-picture.invariant c.in_ok-decode_picture.ensures

pub returns-in_err-decode_picture : goal.returns-in_err-decode_picture
returns-in_err-decode_picture g c =
    subst (WritesFirst c.args.options.form c.args.options.hash
    (change_of g.O.Sink.contents g.O.Sink.faults c.args.out.now c.decode_picture.new.out)
    c.args.pictures.now c.args.buffer.now c.decode_picture.new.buffer)
    (sym (exit-is c.from_residual.result c.in_err-decode_picture.field-0.0 c.from_residual.ensures.1))
    (over-one g.O.Sink.contents g.O.Sink.faults c.args.options.form c.args.options.hash c.args.out.now
    c.loop-picture.out c.decode_picture.new.out
    c.args.pictures.now c.args.buffer.now c.loop-picture.buffer c.loop-picture.picture-index
    c.picture-item.result c.in_err-decode_picture.field-0.0
    c.loop-picture-test.true c.picture-item.is c.loop-picture.invariant c.in_err-decode_picture.ensures)
