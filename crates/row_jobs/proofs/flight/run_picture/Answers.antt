use Rattle.std.proofs.Common.{[], ◌∷◌, refl, arith}
use Rattle.row_jobs.proofs.Decoding.{decoded_none, decoded_stop, if_ok_then}
use Rattle.row_jobs.proofs.flight.run_picture.Goals as goal

pub returns-in-Err : goal.returns-in-Err
returns-in-Err c = record {
  decoded =
      if_ok_then c.stopped.result c.stopped.ensures (λ r told.
      decoded_stop c.args.bases.now c.args.bases.now c.new-pictures.result r.pictures (c.args.picture.now ∷ []) 0
      c.args.picture.now c.in-Err.error r.fault (omega arith) refl c.in-Err.ensures told.0 told.1
      (decoded_none c.args.bases.now c.args.bases.now c.new-pictures.result (c.args.picture.now ∷ []) refl
      c.new-pictures.ensures));
}
