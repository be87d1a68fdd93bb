use Rattle.std.proofs.Common.{◌==◌, ◌+◌, ◌&&◌, nat_le, nat_lt, refl}
use Rattle.picture_buffer.specs.Packed.{no_motion}
use Rattle.picture_buffer.proofs.Places.{none_put, still_at, unmoved}
use Rattle.picture_buffer.proofs.packed_field.PackedField.clear_run.Goals as goal

pub returns-then-self-clause-places : goal.returns-then-self-clause-places
returns-then-self-clause-places c i j =
    rw (← c.self.view_is) (none_put c.self.inside.targets c.self.inside.count c.self.inside.own
    c.self.inside.places c.put_run.new.self _ i j c.self.invariant.0
    (c.put_run.ensures.sides c.self.inside.places.across c.self.inside.places.down
    (record { columns = refl; rows = refl })) (c.put_run.ensures.cells no_motion i j))

pub returns-else-self-clause-places : goal.returns-else-self-clause-places
returns-else-self-clause-places c i j =
    rw (← c.self.view_is) (unmoved (j == c.args.y && (nat_le c.args.x i && nat_lt i (c.args.x + c.args.count))) _
    (still_at c.self.inside.targets c.self.inside.count c.self.inside.moving c.self.inside.own c.self.inside.places
    c.self.invariant.0 c.self.invariant.1 c.if-self.false i j))
