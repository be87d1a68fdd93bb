use Rattle.decoder.specs.Headline.{change_of}
use Rattle.decoder.proofs.Takings.{rest-ended}
use Rattle.decoder.proofs.stream.Decoder.write_end.Goals as goal

pub returns-in-Ok : goal.returns-in-Ok
returns-in-Ok g c =
    rest-ended c.args.options.form c.args.options.hash
    (change_of g.O.Sink.contents g.O.Sink.faults c.args.out.now c.write_last.new.out) c.args.self.now.planner
    c.finish.new.self c.args.self.now.buffer c.in-Ok.planned.flights c.in-Ok.planned.last
    c.in-Ok.planned.stop c.write_last.result
    c.in-Ok.ensures.value c.in-Ok.ensures.stop c.write_last.ensures
