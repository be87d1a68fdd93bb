use Rattle.taken_flights.proofs.Passes.{looked_same}
use Rattle.taken_flights.proofs.pairs.see_both.Goals as goal

pub returns-in-Stopped-clause-other : goal.returns-in-Stopped-clause-other
returns-in-Stopped-clause-other g c = looked_same c.requires.other

pub returns-in-Ready-clause-ready : goal.returns-in-Ready-clause-ready
returns-in-Ready-clause-ready g c = λ is. (c.see_one.ensures.ready c.in-Ready.is, c.see_one-in-Ready.ensures.ready is)
