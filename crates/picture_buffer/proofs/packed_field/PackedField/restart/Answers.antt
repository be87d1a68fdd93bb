use Rattle.std.proofs.Common.{◌∙◌, sym, refl}
use Rattle.picture_buffer.proofs.Places.{none_at, still_at}
use Rattle.picture_buffer.proofs.packed_field.PackedField.restart.Goals as goal

pub returns-then-self-clause-places : goal.returns-then-self-clause-places
returns-then-self-clause-places c =
    let sides =
    c.fill.ensures.sides c.self.inside.places.across c.self.inside.places.down
    (record { columns = refl; rows = refl }) in
    none_at c.self.inside.targets c.self.inside.own c.fill.new.self (c.self.invariant.0.columns ∙ sym sides.columns)
    (c.self.invariant.0.rows ∙ sym sides.rows) c.fill.ensures.cells

pub returns-else-self-clause-places : goal.returns-else-self-clause-places
returns-else-self-clause-places c =
    rw (← c.self.view_is) (still_at c.self.inside.targets c.self.inside.count c.self.inside.moving c.self.inside.own
    c.self.inside.places c.self.invariant.0 c.self.invariant.1 c.if-self.false)
