use Rattle.flight_ranges.specs.PictureBuild.{buffer_of}
use Rattle.row_jobs.proofs.Decoding.{if_ok_then}
use Rattle.row_jobs.proofs.flight.decode_plainly.Goals as goal

pub returns : goal.returns
returns c =
    if_ok_then c.decode_in_order.result c.decode_in_order.ensures (λ r d.
    c.flights_are_decoded_in_order.ensures.places c.args.plan.now (buffer_of c.args.bases.now) r.pictures r.fault d)
