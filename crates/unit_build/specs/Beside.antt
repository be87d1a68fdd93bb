-- Which samples beside a coding tree unit are known (6.4.1).
use Rattle.std.specs.Prelude.{ℕ, ◌+◌, ◌-◌, ◌*◌, ◌==◌, ◌&&◌, ◌||◌, nat_le, nat_lt, Bool, Option, Some, None}
use Rattle.std.specs.Prelude.{if◌then◌else◌}
use Rattle.spec_picture_build.specs.SpecSliceData.{PictureShape, column_of}
use Rattle.spec_picture_build.specs.Border.{Samples}
use Rattle.unit_build.specs.declared.part.Part.{Part}

-- the first column of the line above that is of a unit of the slice, where units have so many samples on a side: column
-- 0 is of the unit above on the left, and behind the columns of the unit itself stand those of the unit above on the
-- right
unfoldable pub first_above : PictureShape → ℕ → ℕ → ℕ → ℕ
first_above picture slice address side =
    if nat_le (slice + picture.width + 1) address && nat_lt 0 (column_of picture address) then 0
    else (if nat_le (slice + picture.width) address then 1
    else (if nat_le (slice + picture.width) (address + 1) then side + 1 else 2 * side + 1))

-- whether the unit on the left is of the slice
abbrev pub has_left : PictureShape → ℕ → ℕ → Bool
has_left picture slice address = nat_lt 0 (column_of picture address) && nat_lt slice address

-- whether a place is one of the line above, from a column on, and the picture has it
abbrev pub is_above : Part → ℕ → ℕ → ℕ → ℕ → Bool
is_above part first c column line =
    c == part.c
    && (line == 0
    && ((nat_le 1 part.y && nat_le part.y part.height)
    && (nat_le first column && (nat_le column (2 * part.side) && nat_le column (part.width - part.x)))))

-- whether a place is one of the column on the left, and the picture has it
abbrev pub is_left : Part → ℕ → ℕ → ℕ → Bool
is_left part c column line =
    c == part.c && (column == 0 && (nat_le 1 line && (nat_le line part.side && nat_le line (part.height - part.y))))

-- the sample of the picture at a place that is counted from 1 at the part's first one
abbrev pub sample_at : Part → Samples → ℕ → ℕ → ℕ → ℕ
sample_at part samples c column line = samples c (part.x + column - 1) (part.y + line - 1)

-- what is known beside a part of a unit
unfoldable pub beside_part : Part → ℕ → Bool → Samples → ℕ → ℕ → ℕ → Option ℕ
beside_part part first left samples c column line =
    if is_above part first c column line || (left && is_left part c column line)
    then Some (sample_at part samples c column line)
    else None
