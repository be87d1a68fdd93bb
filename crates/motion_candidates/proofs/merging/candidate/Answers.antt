use Rattle.std.proofs.Common.{sym, arith}
use Rattle.motion_candidates.proofs.Completed.{merge_front, merge_whole}
use Rattle.motion_candidates.proofs.merging.candidate.Goals as goal

pub returns-then-from-len : goal.returns-then-from-len
returns-then-from-len g c =
    let a = c.args in
    cc (merge_front a.slice.now (g.V.MotionView.collocated_at a.view.now) (g.V.MotionView.motion_at a.view.now)
    a.unit.now a.index (rw (sym c.spatial_candidates-found.ensures.value) (omega arith)))

pub returns : goal.returns
returns g c =
    let a = c.args in
    cc (merge_whole a.slice.now (g.V.MotionView.collocated_at a.view.now)
    (g.V.MotionView.motion_at a.view.now) a.unit.now)
