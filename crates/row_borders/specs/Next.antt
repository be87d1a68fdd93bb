-- What a border has of what was built and laid before, as a row goes from one of its units to the next.
use Rattle.std.specs.Prelude.{◌≡◌, ℕ, ◌+◌, ◌-◌, ◌*◌, ◌<◌, ◌≤◌, ◌==◌, ◌&&◌, nat_le, nat_lt, Bool, List, Option}
use Rattle.std.specs.Prelude.{length, slice_index, if◌then◌else◌}
use Rattle.picture_buffer.specs.declared.place_motion.PlaceMotion.{PlaceMotion}
use Rattle.picture_layout.specs.declared.coding_tree_unit.CodingTreeUnit.{CodingTreeUnit}
use Rattle.known_picture_laws.specs.SpecDecodedPictures.{DecodedUnits}
use Rattle.spec_picture_build.specs.Border.{unit_side, width_of}
use Rattle.spec_picture_trees.specs.Places.{unit_places}
use Rattle.spec_slice_data.specs.Residual.{samples_of_place}
use Rattle.spec_slice_data.specs.Segment.{PictureShape, column_of}
use Rattle.unit_build.specs.declared.built.BuiltUnit.{BuiltUnit}
use Rattle.row_borders.specs.Building.{built_coded, built_motion, built_sample}
use Rattle.row_borders.specs.Strips.{StripPlaces, coded_along, motion_along, sample_along}

-- the next unit of a row
pub record IsNextInRow (unit next : CodingTreeUnit) : Type 0 where
  pub layout : next.layout ≡ unit.layout
  pub address : next.address ≡ unit.address + 1
  pub right : 1 ≤ column_of next.layout next.address

-- along a column stands the last one of a unit that was built: its samples, its motion and whether its places are coded
pub record HasColumn (picture : PictureShape) (left : StripPlaces) (built : BuiltUnit) : Type 0 where
  pub samples : (c k : ℕ) → c < 3 → k < unit_side picture c
      → sample_along left c k ≡ built_sample built c (unit_side picture c - 1) k
  pub motion : (k : ℕ) → k < unit_places picture
      → motion_along left k ≡ built_motion built (unit_places picture - 1) k
  pub flags : (k : ℕ) → k < unit_places picture → coded_along left k ≡ built_coded built (unit_places picture - 1) k

-- along a line stand the samples of a component that units make of the picture in the line above a row of units, before
-- a column, as far as the picture goes
abbrev pub HasLine : PictureShape → ℕ → StripPlaces → DecodedUnits → ℕ → ℕ → Type 0
HasLine picture row above units c end =
    (x : ℕ) → 1 ≤ row → x < end → x < width_of picture c
    → sample_along above c x ≡ units.samples c x (unit_side picture c * row - 1)

-- the same of motion, and of whether places are coded, before a column of places
pub record HasPlaces (picture : PictureShape) (row : ℕ) (above : StripPlaces) (units : DecodedUnits) (end : ℕ)
    : Type 0 where
  pub motion : (x : ℕ) → 1 ≤ row → x < end → x < picture.across
      → motion_along above x ≡ units.motions x (unit_places picture * row - 1)
  pub flags : (x : ℕ) → 1 ≤ row → x < end → x < picture.across
      → coded_along above x ≡ units.filters.coded x (unit_places picture * row - 1)

-- what units make of the picture is laid above a row of units, before a column of places
pub record IsLaid (picture : PictureShape) (row : ℕ) (above : StripPlaces) (units : DecodedUnits) (end : ℕ)
    : Type 0 where
  pub line : (c : ℕ) → c < 3 → HasLine picture row above units c (samples_of_place c * end)
  pub places : HasPlaces picture row above units end

-- samples of a component are laid along a line from one on
abbrev pub LaysSamples : StripPlaces → StripPlaces → ℕ → ℕ → List ℕ → Type 0
LaysSamples old new c first samples =
    (i x : ℕ) → sample_along new i x
    ≡ (if i == c && (nat_le first x && nat_lt x (first + length samples)) then slice_index samples (x - first)
    else sample_along old i x)

-- the motion of one place is laid, and whether it is coded
pub record LaysPlace (old new : StripPlaces) (x : ℕ) (laid : Option PlaceMotion) (is_coded : Bool) : Type 0 where
  pub motion : (i : ℕ) → motion_along new i ≡ (if i == x then laid else motion_along old i)
  pub flags : (i : ℕ) → coded_along new i ≡ (if i == x then is_coded else coded_along old i)
