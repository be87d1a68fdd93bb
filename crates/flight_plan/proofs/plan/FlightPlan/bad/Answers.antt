use Rattle.std.proofs.Common.{subst}
use Rattle.flight_plan.specs.Flight.{IsFlight}
use Rattle.flight_plan.proofs.Flights.{bad_inside}
use Rattle.flight_plan.proofs.plan.FlightPlan.bad.Goals as goal

pub returns-clause-inside : goal.returns-clause-inside
returns-clause-inside c = bad_inside c.args.self.now (subst IsFlight c.self.view_is c.self.invariant.0)
