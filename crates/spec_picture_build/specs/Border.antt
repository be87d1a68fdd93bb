-- The samples of a picture, and those of them that are known beside a coding tree unit (6.4.1).
use Rattle.std.specs.Prelude.{ℕ, ◌+◌, ◌-◌, ◌*◌, ◌^◌, ◌&&◌, nat_le, nat_lt, Bool, Option, Some, None, if◌then◌else◌}
use Rattle.spec_picture_motion.specs.SpecPictureTrees.{may_be_read}
use Rattle.spec_reconstruction.specs.SpecSliceData.{samples_of_place}
use Rattle.spec_reconstruction.specs.SpecSliceData.{PictureShape, column_of, row_of}
use Rattle.spec_reconstruction.specs.Known.{Known}

-- by component, column and line, counted from 0; 0 outside the picture
abbrev pub Samples : Type 0
Samples = ℕ → ℕ → ℕ → ℕ

-- nothing is built
abbrev pub no_samples : Samples
no_samples c x y = 0

-- the sides of a picture in samples of a component
abbrev pub width_of : PictureShape → ℕ → ℕ
width_of picture c = samples_of_place c * picture.across

-- the lines of a component
abbrev pub height_of : PictureShape → ℕ → ℕ
height_of picture c = samples_of_place c * picture.down

-- a unit's side in samples of a component
abbrev pub unit_side : PictureShape → ℕ → ℕ
unit_side picture c = samples_of_place c * 2 ^ picture.size

-- the column and the line of the first sample of the unit at an address
abbrev pub unit_column : PictureShape → ℕ → ℕ → ℕ
unit_column picture c address = unit_side picture c * column_of picture address

-- the first line of a unit in a component
abbrev pub unit_line : PictureShape → ℕ → ℕ → ℕ
unit_line picture c address = unit_side picture c * row_of picture address

-- whether the picture has a sample
unfoldable pub has_sample : PictureShape → ℕ → ℕ → ℕ → Bool
has_sample picture c x y = nat_lt c 3 && (nat_lt x (width_of picture c) && nat_lt y (height_of picture c))

-- whether a sample beside the unit at an address, whose slice begins at another, is available for it: the picture has
-- it, and it may be read (6.4.1)
unfoldable pub is_available : PictureShape → ℕ → ℕ → ℕ → ℕ → ℕ → Bool
is_available picture slice address c x y =
    has_sample picture c x y && may_be_read picture (unit_side picture c) slice address x y

-- a column or a line that is counted from 1 at a unit's first one lies in the picture, as far as its first edge goes
abbrev pub is_inside : ℕ → ℕ → Bool
is_inside first k = nat_le 1 (first + k)

-- the sample at a place that is counted from 1 at a unit's first sample, if it is available
unfoldable pub sample_beside : PictureShape → ℕ → ℕ → Samples → ℕ → ℕ → ℕ → Option ℕ
sample_beside picture slice address samples c column line =
    let x = unit_column picture c address + column - 1 in
    let y = unit_line picture c address + line - 1 in
    if (is_inside (unit_column picture c address) column && is_inside (unit_line picture c address) line)
    && is_available picture slice address c x y
    then Some (samples c x y) else None

-- what is known beside the unit at an address: no block of it asks for a column past twice the unit's side
unfoldable pub known_beside : PictureShape → ℕ → ℕ → Samples → Known
known_beside picture slice address samples c column line =
    if nat_le column (2 * unit_side picture c) then sample_beside picture slice address samples c column line else None
