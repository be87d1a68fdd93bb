-- What stands behind padding.
use Rattle.std.specs.Prelude.{ℕ, Bool, List, ◌∷◌, ◌++◌}
use Rattle.spec_nal_units.specs.Units.{Part, Stray, unit_at, Padding, Inside, parts}
use Rattle.nal_stream.specs.declared.padding.Behind.{Behind}
use Rattle.nal_stream.specs.declared.padding.Behind.TheVariants as behind

-- the parts of bytes that follow padding: those of a unit that begins here, a stray byte and what follows, or more
-- padding
abbrev pub parts_behind : Behind → Bool → ℕ → List ℕ → List Part
parts_behind behind.Start ended padded bytes = unit_at ended bytes ++ parts ended Inside bytes
parts_behind behind.Stray ended padded bytes = Stray ∷ parts ended (Padding 0) bytes
parts_behind behind.Nothing ended padded bytes = parts ended (Padding padded) bytes
