use Rattle.std.proofs.Common.{sym, ◌∙◌}
use Rattle.nal_stream.specs.Answers.{told_by}
use Rattle.picture_plan.specs.Flights.{pictures_of}
use Rattle.decoder.specs.Headline.{change_of}
use Rattle.decoder.specs.declared.stream.Decoder.{Decoder}
use Rattle.decoder.proofs.Takings.{last-stopped, plans-unit, unit-ends}
use Rattle.decoder.proofs.stream.Decoder.plan_unit.Goals as goal

pub returns-in-None : goal.returns-in-None
returns-in-None g c =
    let new : Decoder = record { planner = c.unit.new.self; buffer = c.decode_flights.new.buffer } in
    plans-unit c.args.options (change_of g.O.Sink.contents g.O.Sink.faults c.args.out.now c.decode_flights.new.out)
    c.args.self.now new (told_by c.args.next) c.in-Ok.planned.flights c.in-Ok.planned.last c.decode_flights.result
    c.in-Ok.ensures.value (sym c.in-Ok.ensures.stop ∙ c.in-None.is) c.decode_flights.ensures

pub returns-in-Some : goal.returns-in-Some
returns-in-Some g c = (
  last-stopped c.args.options.form c.args.options.hash
      (change_of g.O.Sink.contents g.O.Sink.faults c.args.out.now c.write_last.new.out)
      (pictures_of c.in-Ok.planned.flights) c.args.self.now.buffer c.in-Ok.planned.last c.in-Ok.planned.stop
      c.in-Some.field-0 c.write_last.result c.in-Some.is c.write_last.ensures,
  λ ended t later is going.
      unit-ends c.args.options.form c.args.options.hash
      (change_of g.O.Sink.contents g.O.Sink.faults c.args.out.now c.write_last.new.out) ended c.args.self.now
      c.unit.new.self (told_by c.args.next) t later c.in-Ok.planned.flights c.in-Ok.planned.last
      c.in-Ok.planned.stop c.in-Some.field-0 c.write_last.result
      is c.in-Ok.ensures.value going c.in-Ok.ensures.stop c.in-Some.is c.write_last.ensures,
)
