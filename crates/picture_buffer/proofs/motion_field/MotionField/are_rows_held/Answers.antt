use Rattle.std.proofs.Common.{rules, ◌≤◌, refl}
use Rattle.picture_buffer.proofs.HeldPlaces.{rows_held}
use Rattle.picture_buffer.proofs.motion_field.MotionField.are_rows_held.Goals as goal

pub returns : goal.returns
returns c =
    let all : c.args.self.now.down ≤ c.loop-y.y = search rules in
    (λ e. rows_held c.args.self.now c.loop-y.y all c.loop-y.invariant, λ held. refl)
