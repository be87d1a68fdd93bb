use Rattle.std.proofs.Common.{refl, subst, sym}
use Rattle.picture_plan.specs.Flights.{pictures_of}
use Rattle.decoder.specs.Headline.{change_of}
use Rattle.decoder.specs.Writing.{WritesFirst}
use Rattle.decoder.proofs.Writes.{exit-is, passes-none, passes-flight, over-flight}
use Rattle.decoder.proofs.writing.decode_flights.Goals as goal

pub loop-flight-preserved : goal.loop-flight-preserved
loop-flight-preserved g c =
    passes-flight g.O.Sink.contents g.O.Sink.faults c.args.options.form c.args.options.hash c.args.out.now
    c.loop-flight.out c.decode_flight.new.out
    (pictures_of c.args.flights) c.loop-flight.left c.next.new.self c.in-Some.flight c.in-Some.flight
    c.args.buffer.now c.loop-flight.buffer c.decode_flight.new.buffer
    c.in-Some.ensures.value refl c.loop-flight.invariant c.in_ok-decode_flight.ensures

pub returns-in_err-decode_flight : goal.returns-in_err-decode_flight
returns-in_err-decode_flight g c =
    subst (WritesFirst c.args.options.form c.args.options.hash
    (change_of g.O.Sink.contents g.O.Sink.faults c.args.out.now c.decode_flight.new.out)
    (pictures_of c.args.flights) c.args.buffer.now c.decode_flight.new.buffer)
    (sym (exit-is c.from_residual.result c.in_err-decode_flight.field-0.0 c.from_residual.ensures.1))
    (over-flight g.O.Sink.contents g.O.Sink.faults c.args.options.form c.args.options.hash c.args.out.now
    c.loop-flight.out c.decode_flight.new.out
    (pictures_of c.args.flights) c.loop-flight.left c.next.new.self c.in-Some.flight c.in-Some.flight
    c.args.buffer.now c.loop-flight.buffer c.in_err-decode_flight.field-0.0
    c.in-Some.ensures.value refl c.loop-flight.invariant c.in_err-decode_flight.ensures)

pub loop-flight-init : goal.loop-flight-init
loop-flight-init g c =
    passes-none g.O.Sink.contents g.O.Sink.faults c.args.options.form c.args.options.hash c.args.out.now
    (pictures_of c.args.flights) c.args.buffer.now
