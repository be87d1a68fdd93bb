-- What is known of three rows of coding tree blocks of a picture.
use Rattle.std.specs.Prelude.{◌≡◌, ◌≤◌, ℕ, ◌+◌, ◌-◌, ◌*◌, ◌/◌, min, nat_le, pos, Bool, true, false, if◌then◌else◌}
use Rattle.ctu_records.specs.declared.offset.ComponentOffset.TheVariants.{Off}
use Rattle.place_grid.specs.Cells.{Cells, HasCells, cell}
use Rattle.spec_deblocking.specs.declared.place.Place.{Place}
use Rattle.spec_sample_adaptive_offset.specs.declared.unit.OffsetUnit.{OffsetUnit}
use Rattle.spec_loop_filters.specs.declared.format.FilterFormat.{FilterFormat}
use Rattle.loop_filters.specs.Formats.{IsFormat, columns_of}

-- the format of the picture, the first of the rows, their places line by line, and their units: of each row those of
-- luma, those of Cb below them, and those of Cr below those
pub record Around : Type 0 where
  pub format : FilterFormat
  pub above : ℕ
  pub places : Cells Place
  pub units : Cells OffsetUnit

-- a place and a unit of which nothing is known
abbrev pub no_place : Place
no_place = record {
  left_strength = 0;
  top_strength = 0;
  qp_y = pos 0;
  kept = false;
  slice_beta_offset_div2 = pos 0;
  slice_tc_offset_div2 = pos 0;
}

abbrev pub no_unit : OffsetUnit
no_unit = record { offset = Off; slice = 0; across = true }

-- the first of the rows' lines of places
abbrev pub first_place : Around → ℕ
first_place around = around.format.ctb_size / 4 * around.above

-- what is known of a place of the picture, by column and row; nothing outside the three rows
unfoldable pub place_in : Around → ℕ → ℕ → Place
place_in around x y =
    if nat_le (first_place around) y then cell no_place around.places x (y - first_place around) else no_place

-- and of a component of a unit; of another row what is known of the nearest one
unfoldable pub unit_in : Around → ℕ → ℕ → ℕ → OffsetUnit
unit_in around c column row = cell no_unit around.units column (3 * min (row - around.above) 2 + c)

-- three rows of a format, and the flags of places whose samples stay
pub record IsAround (format : FilterFormat) (above : ℕ) (field : Cells Place) (flags : Cells Bool)
    (rows : Cells OffsetUnit) : Type 0 where
  pub is_format : IsFormat format
  pub few : above ≤ 8192
  pub places : HasCells field (format.width / 4) (3 * (format.ctb_size / 4))
  pub sides : HasCells flags (format.width / 4) (3 * (format.ctb_size / 4))
  pub kept : (x y : ℕ) → cell false flags x y ≡ (cell no_place field x y).kept
  pub units : HasCells rows (columns_of format) 9
