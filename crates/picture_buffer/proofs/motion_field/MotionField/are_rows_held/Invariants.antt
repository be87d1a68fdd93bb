-- The rows so far are held.
use Rattle.std.proofs.Common.{ℕ, ◌<◌}
use Rattle.picture_buffer.proofs.HeldPlaces.{IsPlaceHeld}
use Rattle.picture_buffer.proofs.motion_field.MotionField.are_rows_held.Given as goal

abbrev pub invariant-loop-y : goal.invariant-loop-y
invariant-loop-y l = (y : ℕ) → y < l.y → (x : ℕ) → IsPlaceHeld l.self x y
