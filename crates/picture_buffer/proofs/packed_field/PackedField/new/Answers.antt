use Rattle.std.proofs.Common.{replicate, ◌∙◌, sym}
use Rattle.picture_buffer.specs.Packed.{no_target}
use Rattle.picture_buffer.proofs.Places.{none_at}
use Rattle.picture_buffer.proofs.packed_field.PackedField.new.Goals as goal

pub returns-clause-places : goal.returns-clause-places
returns-clause-places c =
    none_at (replicate 64 no_target) c.in_ok-own.own c.in_ok-places.places
    (c.in_ok-own.ensures.sides.columns ∙ sym c.in_ok-places.ensures.sides.columns)
    (c.in_ok-own.ensures.sides.rows ∙ sym c.in_ok-places.ensures.sides.rows)
    (c.in_ok-places.ensures.cells (λ copy e. e))
