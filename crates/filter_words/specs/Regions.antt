-- What is known of the places and units of three rows of coding tree blocks behind a call that lays some of them.
use Rattle.std.specs.Prelude.{◌≡◌, ◌<◌, ◌≤◌, ℕ, ◌+◌, ◌&&◌, nat_le, nat_lt, Bool, if◌then◌else◌}
use Rattle.spec_deblocking.specs.declared.place.Place.{Place}
use Rattle.spec_sample_adaptive_offset.specs.declared.unit.OffsetUnit.{OffsetUnit}
use Rattle.row_filters.specs.Around.{Around, place_in, unit_in}

-- whether a number is one of those from a first one to before an end
abbrev pub is_from_to : ℕ → ℕ → ℕ → Bool
is_from_to first end n = nat_le first n && nat_lt n end

-- whether a column and a row are in a rectangle: in columns from `left` to before `right`, and in rows from `top` to
-- before `bottom`
abbrev pub is_inside : ℕ → ℕ → ℕ → ℕ → ℕ → ℕ → Bool
is_inside left right top bottom x y = is_from_to left right x && is_from_to top bottom y

-- places are known here, by column and row; all others, and all units, stay as they were
pub record LaysPlaces (here : ℕ → ℕ → Bool) (known : ℕ → ℕ → Place) (old new : Around) : Type 0 where
  pub format : new.format ≡ old.format
  pub above : new.above ≡ old.above
  pub places : (x y : ℕ) → place_in new x y ≡ (if here x y then known x y else place_in old x y)
  pub units : (c column row : ℕ) → unit_in new c column row ≡ unit_in old c column row

-- the components of units are known here; those of all others, and all places, stay
pub record LaysUnits (here : ℕ → ℕ → Bool) (known : ℕ → ℕ → ℕ → OffsetUnit) (old new : Around) : Type 0 where
  pub format : new.format ≡ old.format
  pub above : new.above ≡ old.above
  pub units : (c column row : ℕ) → c < 3 → old.above ≤ row → row ≤ old.above + 2
      → unit_in new c column row ≡ (if here column row then known c column row else unit_in old c column row)
  pub places : (x y : ℕ) → place_in new x y ≡ place_in old x y
