-- What sample adaptive offset knows of a picture's coding tree units, by component, column and row (8.7.3).
use Rattle.std.specs.Prelude.{ℕ, ◌+◌, ◌*◌, nat_lt, true, if◌then◌else◌}
use Rattle.ctu_records.specs.declared.offset.ComponentOffset.TheVariants.{Off}
use Rattle.spec_sample_adaptive_offset.specs.declared.unit.OffsetUnit.{OffsetUnit}
use Rattle.place_grid.specs.Cells.{Cells, HasCells, cell}

-- a picture's units: of each row those of luma, those of Cb below them, and those of Cr below those
abbrev pub FieldUnits : Type 0
FieldUnits = Cells OffsetUnit

-- a unit of which nothing is known: not applied, in the slice of the first unit, across slices
abbrev pub first_unit : OffsetUnit
first_unit = record { offset = Off; slice = 0; across = true }

-- a component of a unit; nothing is known outside the picture, and past the third component
unfoldable pub units_of : FieldUnits → ℕ → ℕ → ℕ → OffsetUnit
units_of field c column row = if nat_lt c 3 then cell first_unit field column (3 * row + c) else first_unit

-- a field of so many columns and rows of units
abbrev pub HasUnits : FieldUnits → ℕ → ℕ → Type 0
HasUnits field columns rows = HasCells field columns (3 * rows)
