use Rattle.decoder.specs.Headline.{change_of}
use Rattle.decoder.proofs.Takings.{rest-halted}
use Rattle.decoder.proofs.stream.Decoder.write_halted.Goals as goal

pub returns : goal.returns
returns g c =
    rest-halted c.args.options.form c.args.options.hash
    (change_of g.O.Sink.contents g.O.Sink.faults c.args.out.now c.write_last.new.out)
    c.args.self.now.planner c.halt.new.self c.args.self.now.buffer c.halt.result.flights c.halt.result.last
    c.halt.result.stop c.write_last.result
    c.halt.ensures.value c.halt.ensures.stop c.write_last.ensures
