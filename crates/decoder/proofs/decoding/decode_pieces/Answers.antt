use Rattle.std.proofs.Common.{rules, ◌≡◌, None}
use Rattle.decoder.specs.Headline.{change_of}
use Rattle.decoder.proofs.Decodings.{piece-taken, read-failed, reading-over, source-ended, stream-stopped}
use Rattle.decoder.proofs.HeadlineLaws.{headline_complete}
use Rattle.decoder.proofs.decoding.decode_pieces.Goals as goal

pub returns-in-Ok-eq0-clause-headline : goal.returns-in-Ok-eq0-clause-headline
returns-in-Ok-eq0-clause-headline g c =
    let h = c.loop.invariant.read in
    let none : c.in-Ok-eq0.field-0 ≡ 0 = search rules in
    source-ended g.S.Source.left g.S.Source.faults g.O.Sink.contents g.O.Sink.faults c.args.session.now.options
    c.loop.session c.args.src.now c.loop.src c.read.new.self c.args.out.now c.loop.out c.end.new.out
    c.in-Ok-eq0.field-0 c.read.new.buf c.end.result h c.in-Ok-eq0.ensures.taken none
    (c.in-Ok-eq0.ensures.end none c.loop.invariant.room) c.in-Ok-eq0.ensures.quiet
    (c.end.ensures.ended h.bytes h.gained h.stands h.going)

pub returns-in-Ok-eq0-clause-complete : goal.returns-in-Ok-eq0-clause-complete
returns-in-Ok-eq0-clause-complete g c =
    headline_complete c.args.session.now.options.form c.args.session.now.options.hash
    (change_of g.S.Source.left g.S.Source.faults c.args.src.now c.read.new.self)
    (change_of g.O.Sink.contents g.O.Sink.faults c.args.out.now c.end.new.out) c.end.result
    (returns-in-Ok-eq0-clause-headline g c)

pub returns-in-Some-clause-headline : goal.returns-in-Some-clause-headline
returns-in-Some-clause-headline g c =
    let h = c.loop.invariant.read in
    stream-stopped g.S.Source.left g.S.Source.faults g.O.Sink.contents g.O.Sink.faults c.args.session.now.options
    c.loop.session c.push.new.self c.args.src.now c.loop.src c.read.new.self c.args.out.now c.loop.out c.push.new.out
    _ c.in-Some.outcome h c.in-Ok.ensures.taken c.in-Some.ensures.options
    (c.in-Some.ensures.pushed h.bytes h.gained h.stands) (c.in-Some.ensures.counted h.bytes h.gained h.stands h.going)

pub returns-in-Some-clause-complete : goal.returns-in-Some-clause-complete
returns-in-Some-clause-complete g c =
    headline_complete c.args.session.now.options.form c.args.session.now.options.hash
    (change_of g.S.Source.left g.S.Source.faults c.args.src.now c.read.new.self)
    (change_of g.O.Sink.contents g.O.Sink.faults c.args.out.now c.push.new.out) c.in-Some.outcome
    (returns-in-Some-clause-headline g c)

pub returns-in-Err-clause-headline : goal.returns-in-Err-clause-headline
returns-in-Err-clause-headline g c =
    let h = c.loop.invariant.read in
    read-failed g.S.Source.left g.S.Source.faults g.O.Sink.contents g.O.Sink.faults c.args.session.now.options
    c.loop.session c.args.src.now c.loop.src c.read.new.self c.args.out.now c.loop.out c.stop.new.out
    c.stop.result c.unwrap_or.result h c.in-Err.ensures.same c.in-Err.ensures.counted
    (c.stop.ensures.stop h.going) (c.stop.ensures.ended h.bytes h.gained h.stands h.going)
    c.unwrap_or.ensures

pub loop-preserved : goal.loop-preserved
loop-preserved g c =
    let h = c.loop.invariant.read in
    let none : c.push.new.self.outcome ≡ None = c.in_default.ensures.answer in
    record {
      read = piece-taken g.S.Source.left g.S.Source.faults g.O.Sink.contents g.O.Sink.faults c.args.session.now.options
          c.loop.session c.push.new.self c.args.src.now c.loop.src c.read.new.self c.args.out.now c.loop.out
          c.push.new.out _ h c.in-Ok.ensures.taken c.in-Ok.ensures.quiet c.in_default.ensures.options none
          (c.in_default.ensures.pushed h.bytes h.gained h.stands)
          (c.in_default.ensures.counted h.bytes h.gained h.stands h.going);
      room = search rules;
    }

pub returns-clause-headline : goal.returns-clause-headline
returns-clause-headline g c =
    reading-over g.S.Source.left g.S.Source.faults g.O.Sink.contents g.O.Sink.faults c.args.session.now.options
    c.loop.session c.args.src.now c.loop.src c.args.out.now c.loop.out c.loop.invariant.read
