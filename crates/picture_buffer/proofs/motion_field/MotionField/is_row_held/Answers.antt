use Rattle.std.proofs.Common.{rules, ◌≤◌, refl}
use Rattle.picture_buffer.proofs.HeldPlaces.{row_held}
use Rattle.picture_buffer.proofs.motion_field.MotionField.is_row_held.Goals as goal

pub returns : goal.returns
returns c =
    let all : c.args.self.now.across ≤ c.loop-x.x = search rules in
    (λ e. row_held c.args.self.now c.args.y c.loop-x.x all c.loop-x.invariant, λ held. refl)
