use Rattle.spec_motion.specs.Temporal.{temporal_mv}
use Rattle.spec_motion.specs.VectorPrediction.{mv_predictors, predicted_mv}
use Rattle.motion_candidates.proofs.Choice.{chosen}
use Rattle.motion_candidates.proofs.predictors.amvp.Goals as goal

pub returns : goal.returns
unfolding predicted_mv mv_predictors
returns g c =
    let a = c.args in
    chosen _ _
    (temporal_mv a.slice.now (g.V.MotionView.collocated_at a.view.now) a.block a.list a.ref_idx) _ a.mvp _ _ _
    c.nth.ensures c.temporal_if-temporal.ensures c.is_needed-needed.ensures (cc)
