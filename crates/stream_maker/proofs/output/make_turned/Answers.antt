use Rattle.stream_maker.proofs.Writings.{cut_is_front}
use Rattle.stream_maker.proofs.output.make_turned.Goals as goal

pub returns-in-Err-Memory-clause-front : goal.returns-in-Err-Memory-clause-front
returns-in-Err-Memory-clause-front g c =
    cut_is_front g.O.Sink.contents g.O.Sink.faults c.args.turned.now c.args.out.now c.write_stream.new.out
    c.args.seed c.args.pictures c.in-Err-Memory.field-0 c.in-Err-Memory.ensures
