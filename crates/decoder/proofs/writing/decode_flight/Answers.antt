use Rattle.std.proofs.Common.{[], append-nil, subst, sym}
use Rattle.hv_base.specs.declared.outcome.Outcome.TheVariants as outcome
use Rattle.decoder.specs.Headline.{change_of}
use Rattle.decoder.specs.Writing.{WritesFirst}
use Rattle.decoder.proofs.Writes.{ends-unwritten, exit-is, over-part, parts-of, passes-none, passes-part}
use Rattle.decoder.proofs.writing.decode_flight.Goals as goal

pub parts-init : goal.parts-init
parts-init g c =
    passes-none g.O.Sink.contents g.O.Sink.faults c.args.options.form c.args.options.hash c.args.out.now
    c.args.flight c.args.buffer.now

pub parts-preserved : goal.parts-preserved
parts-preserved g c =
    passes-part g.O.Sink.contents g.O.Sink.faults c.args.options.form c.args.options.hash c.args.out.now
    c.parts.out c.decode_pictures.new.out
    c.args.flight c.parts.left c.in-Ok.part c.take_first.new.self
    c.args.buffer.now c.parts.buffer c.decode_pictures.new.buffer
    (parts-of c.most_together-together.result c.parts.left c.in-Ok.part c.take_first.new.self
    c.in-Ok.ensures.first c.in-Ok.ensures.left)
    c.parts.invariant c.in_ok-decode_pictures.ensures

pub returns-in_err-decode_pictures : goal.returns-in_err-decode_pictures
returns-in_err-decode_pictures g c =
    subst (WritesFirst c.args.options.form c.args.options.hash
    (change_of g.O.Sink.contents g.O.Sink.faults c.args.out.now c.decode_pictures.new.out)
    c.args.flight c.args.buffer.now c.decode_pictures.new.buffer)
    (sym (exit-is c.from_residual.result c.in_err-decode_pictures.field-0.0 c.from_residual.ensures.1))
    (over-part g.O.Sink.contents g.O.Sink.faults c.args.options.form c.args.options.hash c.args.out.now
    c.parts.out c.decode_pictures.new.out
    c.args.flight c.parts.left c.in-Ok.part c.take_first.new.self
    c.args.buffer.now c.parts.buffer c.in_err-decode_pictures.field-0.0
    (parts-of c.most_together-together.result c.parts.left c.in-Ok.part c.take_first.new.self
    c.in-Ok.ensures.first c.in-Ok.ensures.left)
    c.parts.invariant c.in_err-decode_pictures.ensures)

-- want of memory behind the first parts
pub returns-in_default : goal.returns-in_default
returns-in_default g c =
    over-part g.O.Sink.contents g.O.Sink.faults c.args.options.form c.args.options.hash c.args.out.now
    c.parts.out c.parts.out
    c.args.flight c.parts.left c.parts.left []
    c.args.buffer.now c.parts.buffer outcome.Memory
    (sym (append-nil c.parts.left))
    c.parts.invariant
    (ends-unwritten g.O.Sink.contents g.O.Sink.faults c.args.options.form c.args.options.hash c.parts.out
    c.parts.left c.parts.buffer)
