use Rattle.std.proofs.Common.{◌≡◌, ℕ, ◌+◌, ◌<◌, None}
use Rattle.picture_motion.specs.CtuMotion.{held}
use Rattle.unit_build.proofs.near.is_unknown_row.Given as goal

abbrev pub invariant-loop-x : goal.invariant-loop-x
invariant-loop-x l = (i : ℕ) → i < l.x → held l.motion (i + 1) (l.y + 1) ≡ None
