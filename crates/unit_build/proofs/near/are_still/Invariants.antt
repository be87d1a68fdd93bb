use Rattle.std.proofs.Common.{◌≡◌, ℕ, ◌+◌, ◌<◌, None}
use Rattle.picture_motion.specs.CtuMotion.{held}
use Rattle.unit_build.specs.Near.{motion_there}
use Rattle.unit_build.proofs.near.are_still.Given as goal

abbrev pub invariant-loop-y : goal.invariant-loop-y
invariant-loop-y g l = (i j : ℕ) → i < l.side → j < l.y
    → motion_there l.near.unit.now l.near.slice.now (held l.near.motion.now)
    (g.B.MotionBeside.motion_at l.near.beside.now) (i + 1) (j + 1)
    ≡ None
