use Rattle.std.proofs.Common.{◌∙◌, sym}
use Rattle.picture_buffer.proofs.Places.{motion_at, still_at}
use Rattle.picture_buffer.proofs.packed_field.PackedField.at.Goals as goal

pub returns-then-self : goal.returns-then-self
returns-then-self c =
    rw (← c.self.view_is) (c.motion.ensures ∙ rw (c.at-place.ensures, c.at.ensures)
    (sym (motion_at c.self.inside.targets c.self.inside.own c.self.inside.places c.self.invariant.0.columns
    c.self.invariant.0.rows c.args.x c.args.y)))

pub returns-else-self : goal.returns-else-self
returns-else-self c =
    rw (← c.self.view_is) (sym (still_at c.self.inside.targets c.self.inside.count c.self.inside.moving
    c.self.inside.own c.self.inside.places c.self.invariant.0 c.self.invariant.1 c.if-self.false c.args.x c.args.y))
