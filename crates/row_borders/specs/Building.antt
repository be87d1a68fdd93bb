-- What building a coding tree unit leaves, by places of the unit, and what units make of a picture.
use Rattle.std.specs.Prelude.{◌≡◌, ℕ, ◌+◌, ◌-◌, ◌*◌, ◌<◌, ◌≤◌, Bool, true, Option, slice_index_or, unwrap_or}
use Rattle.std.specs.List.{All}
use Rattle.unit_build.specs.CtuBuild.{held}
use Rattle.ctu_motion.specs.Held.{held as motion_held}
use Rattle.ctu_records.specs.Tree.{Ctu}
use Rattle.picture_buffer.specs.declared.place_motion.PlaceMotion.{PlaceMotion}
use Rattle.unit_build.specs.PictureFilters.{read_place}
use Rattle.unit_build.specs.PictureFilters.{first_unit}
use Rattle.unit_build.specs.PictureMotion.{known_over}
use Rattle.plan_types.specs.declared.picture_plan.PicturePlan.{PicturePlan}
use Rattle.plan_types.specs.declared.segment_plan.SegmentPlan.{SegmentPlan}
use Rattle.known_picture_laws.specs.SpecDecodedPictures.{DecodedUnits}
use Rattle.spec_deblocking.specs.declared.place.Place.{Place}
use Rattle.spec_motion.specs.Units.{IsPlacedItem}
use Rattle.spec_picture_build.specs.Border.{height_of, unit_column, unit_line, unit_side, width_of}
use Rattle.spec_picture_build.specs.Built.{is_of_unit}
use Rattle.spec_picture_filters.specs.Units.{is_component, place_of}
use Rattle.spec_picture_motion.specs.Field.{Motions, pointing_motion}
use Rattle.spec_picture_motion.specs.Slices.{slice_motion}
use Rattle.spec_picture_trees.specs.Picture.{TreeUnit}
use Rattle.spec_picture_trees.specs.Places.{first_column, first_row, is_of_unit as has_place_of, unit_places}
use Rattle.spec_picture_trees.specs.Shapes.{picture_shape}
use Rattle.spec_sample_adaptive_offset.specs.declared.unit.OffsetUnit.{OffsetUnit}
use Rattle.unit_build.specs.declared.built.BuiltUnit.{BuiltUnit}
use Rattle.row_borders.specs.Borders.{Bordering, block_beneath, coded_above, coded_left, collocated_at, column_left}
use Rattle.row_borders.specs.Borders.{line_above, motion_above, motion_at, motion_left}

-- the samples of a unit that is built, by component, column and line; 0 where none is known
abbrev pub built_sample : BuiltUnit → ℕ → ℕ → ℕ → ℕ
built_sample built c column line = unwrap_or (held built.samples c (column + 1) (line + 1)) 0

-- its motion, by column and row of places
abbrev pub built_motion : BuiltUnit → ℕ → ℕ → Option PlaceMotion
built_motion built column row = pointing_motion built.slice (motion_held built.motion (column + 1) (row + 1))

-- what deblocking asks of a place
abbrev pub built_place : BuiltUnit → ℕ → ℕ → Place
built_place built column row = place_of built.filters.deblocking (read_place built.filters.places column row)

-- whether a place is coded
abbrev pub built_coded : BuiltUnit → ℕ → ℕ → Bool
built_coded built column row = (read_place built.filters.places column row).coded

-- what sample adaptive offset asks of a component
abbrev pub built_offset : BuiltUnit → ℕ → OffsetUnit
built_offset built c = slice_index_or built.filters.offsets c first_unit

-- what was built is the unit at an address of a picture, as far as the picture goes, of which units make this
pub record HoldsUnit (p : PicturePlan) (address : ℕ) (built : BuiltUnit) (units : DecodedUnits) : Type 0 where
  pub samples : (c x y : ℕ) → is_of_unit (picture_shape p.sps p.pps) address c x y ≡ true
      → built_sample built c (x - unit_column (picture_shape p.sps p.pps) c address)
      (y - unit_line (picture_shape p.sps p.pps) c address)
      ≡ units.samples c x y
  pub motions : (x y : ℕ) → has_place_of (picture_shape p.sps p.pps) address x y ≡ true
      → built_motion built (x - first_column (picture_shape p.sps p.pps) address)
      (y - first_row (picture_shape p.sps p.pps) address)
      ≡ units.motions x y
  pub places : (x y : ℕ) → has_place_of (picture_shape p.sps p.pps) address x y ≡ true
      → built_place built (x - first_column (picture_shape p.sps p.pps) address)
      (y - first_row (picture_shape p.sps p.pps) address)
      ≡ units.filters.places x y
  pub coded : (x y : ℕ) → has_place_of (picture_shape p.sps p.pps) address x y ≡ true
      → built_coded built (x - first_column (picture_shape p.sps p.pps) address)
      (y - first_row (picture_shape p.sps p.pps) address)
      ≡ units.filters.coded x y
  pub offsets : (c column row : ℕ) → is_component p address c column row ≡ true
      → built_offset built c ≡ units.filters.units c column row

-- a unit that was read, of the segment with a number
abbrev pub tree_unit : ℕ → ℕ → Ctu → TreeUnit
tree_unit segment address read = record { segment = segment; ctu = address; read = read }

-- above its unit a border has what units make of the picture, as far as the picture goes: samples and motion of the
-- line above, from the column before the unit to the end of as many columns again behind it, and whether the places
-- right above it are coded
pub record IsAbove (border : Bordering) (units : DecodedUnits) : Type 0 where
  pub line : (c x : ℕ) → c < 3 → 1 ≤ unit_line border.unit.layout c border.unit.address
      → unit_column border.unit.layout c border.unit.address ≤ x + 1
      → x < unit_column border.unit.layout c border.unit.address + 2 * unit_side border.unit.layout c
      → x < width_of border.unit.layout c
      → line_above border c x ≡ units.samples c x (unit_line border.unit.layout c border.unit.address - 1)
  pub motion : (x : ℕ) → 1 ≤ first_row border.unit.layout border.unit.address
      → first_column border.unit.layout border.unit.address ≤ x + 1
      → x < first_column border.unit.layout border.unit.address + 2 * unit_places border.unit.layout
      → x < border.unit.layout.across
      → motion_above border x ≡ units.motions x (first_row border.unit.layout border.unit.address - 1)
  pub flags : (x : ℕ) → 1 ≤ first_row border.unit.layout border.unit.address
      → first_column border.unit.layout border.unit.address ≤ x
      → x < first_column border.unit.layout border.unit.address + unit_places border.unit.layout
      → x < border.unit.layout.across
      → coded_above border x ≡ units.filters.coded x (first_row border.unit.layout border.unit.address - 1)

-- and on the left of it: samples and motion of the column there, and whether its places are coded
pub record IsAtLeft (border : Bordering) (units : DecodedUnits) : Type 0 where
  pub column : (c k : ℕ) → c < 3 → 1 ≤ unit_column border.unit.layout c border.unit.address
      → k < unit_side border.unit.layout c
      → unit_line border.unit.layout c border.unit.address + k < height_of border.unit.layout c
      → column_left border c k
      ≡ units.samples c (unit_column border.unit.layout c border.unit.address - 1)
      (unit_line border.unit.layout c border.unit.address + k)
  pub motion : (k : ℕ) → 1 ≤ first_column border.unit.layout border.unit.address
      → k < unit_places border.unit.layout
      → first_row border.unit.layout border.unit.address + k < border.unit.layout.down
      → motion_left border k
      ≡ units.motions (first_column border.unit.layout border.unit.address - 1)
      (first_row border.unit.layout border.unit.address + k)
  pub flags : (k : ℕ) → 1 ≤ first_column border.unit.layout border.unit.address
      → k < unit_places border.unit.layout
      → first_row border.unit.layout border.unit.address + k < border.unit.layout.down
      → coded_left border k
      ≡ units.filters.coded (first_column border.unit.layout border.unit.address - 1)
      (first_row border.unit.layout border.unit.address + k)

-- a border has, beside its unit, what units make of the picture
pub record IsBeside (border : Bordering) (units : DecodedUnits) : Type 0 where
  pub above : IsAbove border units
  pub left : IsAtLeft border units

-- and beneath it what the collocated picture has in the rows of the unit, as far as the column behind it
abbrev pub IsBeneath : Bordering → Motions → Type 0
IsBeneath border collocated =
    (column row : ℕ) → 4 * column ≤ unit_places border.unit.layout → 4 * row < unit_places border.unit.layout
    → block_beneath border column row
    ≡ collocated (first_column border.unit.layout border.unit.address + 4 * column)
    (first_row border.unit.layout border.unit.address + 4 * row)

-- the motion of the unit at a border is derived, of a slice segment, by what was read of it: its slice's data, with the
-- pictures that vectors point to, and what is known of its motion, where its prediction units lie in it
pub record IsDerived (p : PicturePlan) (s : SegmentPlan) (border : Bordering) (ctu : Ctu) (built : BuiltUnit)
    : Type 0 where
  pub slice : built.slice ≡ slice_motion p s border.unit.address
  pub motion : All IsPlacedItem ctu.items
      → motion_held built.motion
      ≡ known_over (collocated_at border) p s border.unit.address ctu.items (motion_at border)
