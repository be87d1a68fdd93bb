-- What is known of a picture's places and units where the filters of a row of coding tree blocks ask for it.
use Rattle.std.specs.Prelude.{◌≡◌, ◌<◌, ◌≤◌, ℕ, ◌+◌, ◌/◌}
use Rattle.spec_deblocking.specs.declared.place.Place.{Place}
use Rattle.spec_sample_adaptive_offset.specs.declared.unit.OffsetUnit.{OffsetUnit}
use Rattle.spec_loop_filters.specs.declared.format.FilterFormat.{FilterFormat}
use Rattle.filter_locality_laws.specs.Rows.{IsPlaceOfRow}
use Rattle.loop_filters.specs.Formats.{columns_of, rows_of}

-- places are known in a row, and in so many rows of places on each side of it, as far as the picture has them
abbrev pub ArePlaces : FilterFormat → ℕ → ℕ → (ℕ → ℕ → Place) → (ℕ → ℕ → Place) → Type 0
ArePlaces format row beside places known =
    (i s : ℕ) → i < format.width / 4 → s < format.height / 4 → IsPlaceOfRow format row beside s
    → places i s ≡ known i s

-- of the places of a row is known whether their samples stay
abbrev pub AreKept : FilterFormat → ℕ → (ℕ → ℕ → Place) → (ℕ → ℕ → Place) → Type 0
AreKept format row places known =
    (i s : ℕ) → i < format.width / 4 → s < format.height / 4 → IsPlaceOfRow format row 0 s
    → (places i s).kept ≡ (known i s).kept

-- a component of units is known in a row and in the row on each side of it, as far as the picture has them
abbrev pub AreUnits : FilterFormat → ℕ → ℕ → (ℕ → ℕ → ℕ → OffsetUnit) → (ℕ → ℕ → ℕ → OffsetUnit) → Type 0
AreUnits format c row units known =
    (u v : ℕ) → u < columns_of format → v < rows_of format → row ≤ v + 1 → v ≤ row + 1
    → units c u v ≡ known c u v
