-- The places so far are held.
use Rattle.std.proofs.Common.{ℕ, ◌<◌}
use Rattle.picture_buffer.proofs.HeldPlaces.{IsPlaceHeld}
use Rattle.picture_buffer.proofs.motion_field.MotionField.is_row_held.Given as goal

abbrev pub invariant-loop-x : goal.invariant-loop-x
invariant-loop-x l = (x : ℕ) → x < l.x → IsPlaceHeld l.self x l.y
