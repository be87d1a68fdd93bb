use Rattle.std.proofs.Common.{◌≡◌, ℕ, ◌+◌, ◌<◌, None}
use Rattle.picture_motion.specs.CtuMotion.{held}
use Rattle.unit_build.specs.Near.{motion_there}
use Rattle.unit_build.proofs.near.is_still_row.Given as goal

abbrev pub invariant-loop-x : goal.invariant-loop-x
invariant-loop-x g l = (i : ℕ) → i < l.x
    → motion_there l.near.unit.now l.near.slice.now (held l.near.motion.now)
    (g.B.MotionBeside.motion_at l.near.beside.now) (i + 1) (l.y + 1)
    ≡ None
