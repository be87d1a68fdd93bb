use Rattle.taken_pictures.specs.FlightFacts.{flight_in}
use Rattle.taken_flights.specs.Taken.{HasLookedOn}
use Rattle.taken_flights.proofs.Parts.{AreTakenSoFar}
use Rattle.taken_flights.proofs.shares.take_share.Given as goal

abbrev pub invariant-loop-k : goal.invariant-loop-k
invariant-loop-k g l = record {
  looked : HasLookedOn l.board l.fn.pass l.pass;
  taken : AreTakenSoFar (flight_in l.board.flight) l.fn.first l.fn.plans l.fn.parts l.parts l.k;
}
