-- The pictures so far are decoded.
use Rattle.row_jobs.proofs.Decoding.{Decoded}
use Rattle.row_jobs.proofs.flight.decode_in_order.Given as goal

abbrev pub invariant-loop-picture : goal.invariant-loop-picture
invariant-loop-picture l = Decoded l.bases l.plan l.picture-index l.buffer l.pictures
