use Rattle.std.proofs.Common.{◌-◌, length, refl}
use Rattle.picture_filters.specs.Places.{held_row}
use Rattle.picture_filters.proofs.Places.{field_put, in_row, row_at}
use Rattle.picture_filters.proofs.place_field.PlaceField.put_row.Goals as goal

pub returns-clause-places : goal.returns-clause-places
returns-clause-places c i j =
    rw (← c.self.view_is) (row_at (in_row c.args.x c.args.y (length c.args.read.now) i j)
    (held_row c.args.read.now c.args.offsets (i - c.args.x)) c.self.inside.places c.put_places.new.places i j
    (c.put_places.ensures.places i j))

pub invariant_of-self : goal.invariant_of-self
invariant_of-self c =
    field_put c.args.x c.args.y c.args.read.now c.args.offsets c.self.inside.places c.put_places.new.places
    c.self.inside.kept c.put_flags-self-inside.new.flags c.self.inside.flagged c.put_flags-self-inside.result
    c.self.invariant
    (c.put_places.ensures.sides c.self.inside.places.across c.self.inside.places.down
    (record { columns = refl; rows = refl }))
    (c.put_flags-self-inside.ensures.sides c.self.inside.kept.across c.self.inside.kept.down
    (record { columns = refl; rows = refl })) c.put_places.ensures.places c.put_flags-self-inside.ensures.flags
    c.put_flags-self-inside.ensures.clear
