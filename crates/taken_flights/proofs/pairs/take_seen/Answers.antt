use Rattle.taken_pictures.specs.FlightFacts.{flight_in}
use Rattle.taken_pictures.proofs.Held.{held_is}
use Rattle.taken_flights.proofs.Passes.{looked_still}
use Rattle.taken_flights.proofs.pairs.take_seen.Goals as goal

pub take_both-requires-clause-one : goal.take_both-requires-clause-one
take_both-requires-clause-one g c = (c.see_both.ensures.ready c.in-Ready.is).0

pub take_both-requires-clause-other : goal.take_both-requires-clause-other
take_both-requires-clause-other g c = (c.see_both.ensures.ready c.in-Ready.is).1

pub returns-in-Ready-clause-one : goal.returns-in-Ready-clause-one
returns-in-Ready-clause-one g c = looked_still c.see_both.ensures.one c.take_both.ensures.one

pub returns-in-Ready-clause-other : goal.returns-in-Ready-clause-other
returns-in-Ready-clause-other g c = looked_still c.see_both.ensures.other c.take_both.ensures.other

pub returns-in-Ready-clause-sized : goal.returns-in-Ready-clause-sized
returns-in-Ready-clause-sized g c = record {
  sides = c.take_both.ensures.samples.sides;
  places = c.take_both.ensures.motion.places;
}

pub returns-in-Ready-clause-ready : goal.returns-in-Ready-clause-ready
returns-in-Ready-clause-ready g c = λ is.
    held_is (flight_in c.args.board.now.flight) c.args.picture c.args.plan.now c.take_both.new.planes
    c.take_both.new.field c.take_both.ensures.samples.samples c.take_both.ensures.motion.motion
