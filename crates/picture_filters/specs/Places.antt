-- What the loop filters know of a picture, by column and row of places, each a block of 4x4 luma samples (8.7.2).
use Rattle.std.specs.Prelude.{◌≡◌, ℕ, Bool, false, pos, List, map, slice_index_or}
use Rattle.place_grid.specs.Cells.{Cells, HasCells, cell}
use Rattle.boundary_strengths.specs.SpecBoundaryStrengths.{UnitPlace}
use Rattle.picture_filters.specs.declared.filter_place.FilterPlace.{FilterPlace}
use Rattle.picture_filters.specs.declared.filter_place.HeldPlace.{HeldPlace}
use Rattle.picture_filters.specs.declared.filter_place.SliceOffsets.{SliceOffsets}

-- a picture's places
abbrev pub FieldPlaces : Type 0
FieldPlaces = Cells FilterPlace

-- a place of which nothing is known: edges without strength, QpY 0, no kept samples, and no coefficient
abbrev pub first_place : FilterPlace
first_place = record {
  place = record {
    left_strength = 0;
    top_strength = 0;
    qp_y = pos 0;
    kept = false;
    slice_beta_offset_div2 = pos 0;
    slice_tc_offset_div2 = pos 0;
  };
  coded = false;
}

-- what was read of a place of which nothing is known
abbrev pub first_read : UnitPlace
first_read = record { left_strength = 0; top_strength = 0; coded = false; qp_y = pos 0; kept = false }

-- and what is kept of it
abbrev pub first_held : HeldPlace
first_held = record { read = first_read; offsets = record { beta = pos 0; tc = pos 0 } }

-- what is kept of a place of a row, by what was read of it and the offsets of its slice
abbrev pub held_row : List UnitPlace → SliceOffsets → ℕ → HeldPlace
held_row read offsets k = record { read = slice_index_or read k first_read; offsets = offsets }

-- what is known of a place, by what is kept of it
abbrev pub known_place : HeldPlace → FilterPlace
known_place held = record {
  place = record {
    left_strength = held.read.left_strength;
    top_strength = held.read.top_strength;
    qp_y = held.read.qp_y;
    kept = held.read.kept;
    slice_beta_offset_div2 = held.offsets.beta;
    slice_tc_offset_div2 = held.offsets.tc;
  };
  coded = held.read.coded;
}

-- and of all places
abbrev pub known_places : Cells HeldPlace → FieldPlaces
known_places held = record { across = held.across; down = held.down; cells = map known_place held.cells }

-- what is known of a place; nothing outside the picture
unfoldable pub places_of : FieldPlaces → ℕ → ℕ → FilterPlace
places_of field x y = cell first_place field x y

-- flags none of which is set
abbrev pub AreClear : Cells Bool → Type 0
AreClear flags = (x y : ℕ) → cell false flags x y ≡ false

-- beside the places stand the flags of those whose samples stay (8.7.2.5.7, 8.7.3), and whether one may be set
pub record IsField (places : FieldPlaces) (flags : Cells Bool) (flagged : Bool) : Type 0 where
  pub columns : flags.across ≡ places.across
  pub rows : flags.down ≡ places.down
  pub kept : (x y : ℕ) → cell false flags x y ≡ (places_of places x y).place.kept
  pub clear : flagged ≡ false → AreClear flags

-- a field of so many places across and down
abbrev pub HasPlaces : FieldPlaces → ℕ → ℕ → Type 0
HasPlaces field across down = HasCells field across down
