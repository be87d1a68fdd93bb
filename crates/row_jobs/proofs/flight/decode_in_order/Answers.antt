use Rattle.row_jobs.proofs.Decoding.{decoded_all, decoded_none, decoded_one, decoded_stop, if_ok_then}
use Rattle.row_jobs.proofs.flight.decode_in_order.Goals as goal

pub loop-picture-init : goal.loop-picture-init
loop-picture-init c =
    decoded_none c.args.bases.now c.in_ok-buffer.buffer c.new-pictures.result c.args.plan.now c.in_ok-buffer.ensures
    c.new-pictures.ensures

pub loop-picture-preserved : goal.loop-picture-preserved
loop-picture-preserved c =
    decoded_one c.args.bases.now c.loop-picture.buffer c.enter.new.buffer c.loop-picture.pictures
    c.enter.new.pictures c.args.plan.now c.loop-picture.picture-index c.picture-item.result c.in-Ok.decoded
    c.as_slice-kept.result.now c.loop-picture-test.true c.picture-item.is c.in-Ok.ensures c.as_slice-kept.ensures
    c.in_ok-enter-in-Ok.ensures.buffer c.in_ok-enter-in-Ok.ensures.pictures c.loop-picture.invariant

pub returns-in-Err : goal.returns-in-Err
returns-in-Err c =
    if_ok_then c.stopped.result c.stopped.ensures (λ r told.
    decoded_stop c.args.bases.now c.loop-picture.buffer c.loop-picture.pictures r.pictures c.args.plan.now
    c.loop-picture.picture-index c.picture-item.result c.in-Err.error r.fault c.loop-picture-test.true
    c.picture-item.is c.in-Err.ensures told.0 told.1 c.loop-picture.invariant)

pub returns : goal.returns
returns c =
    decoded_all c.args.bases.now c.loop-picture.buffer c.loop-picture.pictures c.args.plan.now
    c.loop-picture.picture-index c.loop-picture-test.false c.loop-picture.invariant
