use Rattle.std.proofs.Common.{◌-◌, ◌≤◌, length, slice_set, slice_index_or, arith}
use Rattle.std.proofs.lemmas.Grind.{common_steps}
use Rattle.spec_intra_prediction.specs.Smoothing.{smoothed, smoothed_at}
use Rattle.intra_pred.proofs.Fills.{taken}
use Rattle.intra_pred.proofs.Smoothed.{end_stays}
use Rattle.intra_pred.proofs.smoothing.smoothen.Goals as goal

pub returns : goal.returns
unfolding smoothed
returns c =
    let e = c.args.edge.now in
    let room : length e ≤ length (slice_set c.loop-k.smooth (length e - 1) (slice_index_or e (length e - 1) 0)) =
    grind (arith, common_steps, c.loop-k.invariant.count, c.requires.few) in
    taken _ (length e) 0 (smoothed_at e) room
    (λ k h. end_stays e c.loop-k.smooth c.loop-k.k k c.requires.some c.requires.few c.loop-k.invariant.count
    c.loop-k-test.false c.loop-k.invariant.told h)
