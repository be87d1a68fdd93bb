use Rattle.flight_ranges.specs.PictureBuild.{buffer_of}
use Rattle.flight_ranges.specs.FlightFacts.{flight_of}
use Rattle.row_jobs.proofs.Decoding.{if_ok_then}
use Rattle.row_jobs.proofs.flight.run_flight.Goals as goal

pub returns-clause-decoded : goal.returns-clause-decoded
returns-clause-decoded g c =
    if_ok_then c.decode_flight.result c.decode_flight.ensures (λ r d.
    c.flights_are_decoded_in_order.ensures.order c.args.flight.now (buffer_of c.args.bases.now) r.pictures r.fault d)

pub returns-clause-least : goal.returns-clause-least
returns-clause-least g c =
    if_ok_then c.decode_flight.result c.decode_flight.ensures (λ r d u segments least.
    c.least_bad_units_are_told.ensures (flight_of c.args.flight.now (buffer_of c.args.bases.now)) r.pictures r.fault u
    d segments least)
