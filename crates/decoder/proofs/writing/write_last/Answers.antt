use Rattle.picture_plan.specs.Flights.{pictures_of}
use Rattle.spec_decoder.specs.Decoder.{finished}
use Rattle.decoder.proofs.Writes.{last-written, last-over}
use Rattle.decoder.proofs.writing.write_last.Goals as goal

pub returns-in-Ok : goal.returns-in-Ok
returns-in-Ok g c =
    last-written g.O.Sink.contents g.O.Sink.faults c.args.options.form c.args.options.hash c.args.out.now
    c.decode_flights.new.out c.write_end.new.out
    (pictures_of c.args.planned.flights) c.args.buffer.now c.decode_flights.new.buffer
    (finished c.args.planned.last c.args.planned.stop) c.write_end.result
    c.in-Ok.ensures (rw (← c.as_slice.ensures) c.write_end.ensures)

pub returns : goal.returns
returns g c =
    last-over g.O.Sink.contents g.O.Sink.faults c.args.options.form c.args.options.hash c.args.out.now
    c.decode_flights.new.out (pictures_of c.args.planned.flights) c.args.buffer.now
    (finished c.args.planned.last c.args.planned.stop) c.in-Err.outcome c.in-Err.ensures
