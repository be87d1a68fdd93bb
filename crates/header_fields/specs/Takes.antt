-- What a call does to a reader of fields.
use Rattle.std.specs.Prelude.{◌≡◌, Result}
use Rattle.hv_base.specs.declared.refusal.Refusal.{Refusal}
use Rattle.spec_formats.specs.Fields.{Header, read, Reads}
use Rattle.header_fields.specs.declared.field_reader.FieldReader.{FieldReader}

-- a call answered, seen by view, what this format reads off the bits that were left, or the first rule broken, and left
-- the bits behind it; the rules stay
abbrev pub Takes : {X Y : Type 0} → (X → Y) → Result X Refusal → FieldReader → FieldReader → Header Y → Type 0
Takes view result old new format = Reads view result new.bits (read old.rules format old.bits) × (new.rules ≡ old.rules)
