use Rattle.flight_laws.proofs.Maximal.{finished_maximal, halted_maximal, so_far_maximal}
use Rattle.flight_laws.proofs.laws.flights_are_maximal.Goals as goal

pub returns : goal.returns
returns c = record { so_far = so_far_maximal; finished = finished_maximal; halted = halted_maximal }
