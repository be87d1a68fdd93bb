-- What a row of coding tree units has beside one of them, by places of the picture.
use Rattle.std.specs.Prelude.{◌≡◌, ℕ, ◌+◌, ◌-◌, ◌/◌, ◌==◌, ◌&&◌, nat_le, Bool, false, Option, None, if◌then◌else◌}
use Rattle.picture_buffer.specs.declared.place_motion.PlaceMotion.{PlaceMotion}
use Rattle.picture_buffer.specs.Motion.{FieldPlaces, HasPlaces, motions_of}
use Rattle.picture_layout.specs.declared.coding_tree_unit.CodingTreeUnit.{CodingTreeUnit}
use Rattle.spec_picture_build.specs.Border.{unit_column, unit_line}
use Rattle.spec_picture_trees.specs.Places.{first_column, first_row}
use Rattle.row_borders.specs.Strips.{StripPlaces, coded_along, motion_along, sample_along}

-- the unit, the places of the row above it, in the whole width of the picture, those of the column on its left, and
-- the collocated picture's motion in five columns and four rows of blocks of 4x4 places beneath it
pub record Bordering : Type 0 where
  pub unit : CodingTreeUnit
  pub above : StripPlaces
  pub left : StripPlaces
  pub beneath : FieldPlaces

-- the column and the row of the unit's first place; places that are as many as the picture has across, and as the
-- greatest unit has on a side
pub record IsBorder (unit : CodingTreeUnit) (column row : ℕ) (above left : StripPlaces) (beneath : FieldPlaces)
    : Type 0 where
  pub first : column ≡ first_column unit.layout unit.address
  pub line : row ≡ first_row unit.layout unit.address
  pub across : above.places ≡ unit.layout.across
  pub side : left.places ≡ 16
  pub blocks : HasPlaces beneath 5 4

-- the sample of a component in a column of the line above the unit; 0 outside the picture
abbrev pub line_above : Bordering → ℕ → ℕ → ℕ
line_above border c x = sample_along border.above c x

-- that of the column on its left, in a line that is counted from 0 at the unit's first one
abbrev pub column_left : Bordering → ℕ → ℕ → ℕ
column_left border c k = sample_along border.left c k

-- the motion of the places above, and whether they are coded, by column of the picture; of those on the left, by row
-- from the unit's first one on
abbrev pub motion_above : Bordering → ℕ → Option PlaceMotion
motion_above border x = motion_along border.above x

abbrev pub coded_above : Bordering → ℕ → Bool
coded_above border x = coded_along border.above x

abbrev pub motion_left : Bordering → ℕ → Option PlaceMotion
motion_left border k = motion_along border.left k

abbrev pub coded_left : Bordering → ℕ → Bool
coded_left border k = coded_along border.left k

-- the motion of a block beneath it, by column and row of blocks
abbrev pub block_beneath : Bordering → ℕ → ℕ → Option PlaceMotion
block_beneath border column row = motions_of border.beneath column row

-- what stands in a line above a first column and line, in the column before them from that line on, and elsewhere
abbrev pub at_border : {X : Type 0} → ℕ → ℕ → (ℕ → X) → (ℕ → X) → X → ℕ → ℕ → X
at_border column line above left nothing x y =
    if y + 1 == line then above x
    else (if x + 1 == column && nat_le line y then left (y - line) else nothing)

-- the samples by component, column and line of the picture; 0 where the border has none
unfoldable pub sample_at : Bordering → ℕ → ℕ → ℕ → ℕ
sample_at border c =
    at_border (unit_column border.unit.layout c border.unit.address)
    (unit_line border.unit.layout c border.unit.address)
    (line_above border c) (column_left border c) 0

-- the motion by column and row of places; None where the border has none
unfoldable pub motion_at : Bordering → ℕ → ℕ → Option PlaceMotion
motion_at border =
    at_border (first_column border.unit.layout border.unit.address) (first_row border.unit.layout border.unit.address)
    (motion_above border) (motion_left border) None

-- whether places are coded; false where the border has none
unfoldable pub coded_at : Bordering → ℕ → ℕ → Bool
coded_at border =
    at_border (first_column border.unit.layout border.unit.address) (first_row border.unit.layout border.unit.address)
    (coded_above border) (coded_left border) false

-- the motion of the collocated picture, whose places have that of the first one of their block; None where the border
-- has none
unfoldable pub collocated_at : Bordering → ℕ → ℕ → Option PlaceMotion
collocated_at border x y =
    if nat_le (first_column border.unit.layout border.unit.address) x
    && nat_le (first_row border.unit.layout border.unit.address) y
    then block_beneath border ((x - first_column border.unit.layout border.unit.address) / 4)
    ((y - first_row border.unit.layout border.unit.address) / 4)
    else None

-- a border at another unit; and one whose places above, on the left or beneath were laid
abbrev pub at_unit : Bordering → CodingTreeUnit → Bordering
at_unit border unit = record { unit = unit; above = border.above; left = border.left; beneath = border.beneath }

abbrev pub with_above : Bordering → StripPlaces → Bordering
with_above border above = record { unit = border.unit; above = above; left = border.left; beneath = border.beneath }

abbrev pub with_left : Bordering → StripPlaces → Bordering
with_left border left = record { unit = border.unit; above = border.above; left = left; beneath = border.beneath }

abbrev pub with_beneath : Bordering → FieldPlaces → Bordering
with_beneath border beneath =
    record { unit = border.unit; above = border.above; left = border.left; beneath = beneath }
