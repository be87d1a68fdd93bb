use Rattle.row_trees.proofs.KnownPictureLawsLemmas.{as_known}
use Rattle.flight_results.proofs.Flights.{decoded_in_order, flight_decoded}
use Rattle.flight_results.proofs.laws.flights_are_decoded_in_order.Goals as goal

pub returns-clause-places : goal.returns-clause-places
returns-clause-places c = λ plan bases pictures fault d. flight_decoded plan bases pictures fault as_known d

pub returns-clause-order : goal.returns-clause-order
returns-clause-order c = λ plan bases pictures fault d. decoded_in_order plan bases pictures fault as_known d
