-- What a row of coding tree blocks stands for.
use Rattle.std.specs.Prelude.{◌≡◌, ◌≤◌, ◌<◌, ℕ, ◌+◌, ◌-◌, ◌*◌, ◌/◌, ◌^◌, ◌==◌, nat_lt, min, Bool, false, List, length}
use Rattle.std.specs.Prelude.{slice_index_or, if◌then◌else◌}
use Rattle.ctu_records.specs.declared.offset.ComponentOffset.TheVariants.{Off}
use Rattle.spec_sample_adaptive_offset.specs.declared.unit.OffsetUnit.{OffsetUnit}
use Rattle.spec_sample_adaptive_offset.specs.Plane.{OffsetPlane}
use Rattle.sao_filter.specs.declared.row.OffsetRow.{OffsetRow}

abbrev pub at : List ℕ → ℕ → ℕ
at samples k = slice_index_or samples k 0

abbrev pub no_unit : OffsetUnit
no_unit = record { offset = Off; slice = 0; across = false }

abbrev pub unit_in : List OffsetUnit → ℕ → OffsetUnit
unit_in units k = slice_index_or units k no_unit

-- the units of a row of the picture
abbrev pub units_of : OffsetRow → ℕ → List OffsetUnit
units_of row v = if v == row.row then row.here.now else (if nat_lt v row.row then row.above.now else row.below.now)

-- the first line of the row
abbrev pub top : OffsetRow → ℕ
top row = row.size * row.row

abbrev pub kept_at : OffsetRow → ℕ → ℕ → Bool
kept_at row x y =
    slice_index_or row.kept.now (row.places * ((y - top row) / 2 ^ row.place_log2) + x / 2 ^ row.place_log2) false

-- what the samples of the row depend on, apart from the deblocked plane
abbrev pub plane_of : OffsetRow → OffsetPlane
plane_of row = record {
  width = row.width;
  height = row.height;
  ctb_size = row.size;
  depth = row.depth;
  unit = λ u v. unit_in (units_of row v) u;
  kept = kept_at row;
}

-- the deblocked plane by lines that begin with the one above the row, where there is one
abbrev pub samples_of : OffsetRow → List ℕ → ℕ → ℕ → ℕ
samples_of row lines x y = at lines (row.width * (y - (top row - 1)) + x)

-- the lines of the row
abbrev pub lines_of : OffsetRow → ℕ
lines_of row = min row.size (row.height - top row)

pub record IsRow (row : OffsetRow) : Type 0 where
  pub size : (1 ≤ row.size) × (row.size ≤ 64)
  pub width : (1 ≤ row.width) × (row.width ≤ 65536)
  pub height : row.height ≤ 65536
  pub depth : (8 ≤ row.depth) × (row.depth ≤ 14)
  pub begins : row.size * row.row < row.height
  pub here : (row.width ≤ row.size * length row.here.now) × (row.size * length row.here.now < row.width + row.size)
  pub above : 0 < row.row → row.width ≤ row.size * length row.above.now
  pub below : row.size * row.row + row.size < row.height → row.width ≤ row.size * length row.below.now
  pub places : (row.place_log2 ≤ 6) × (row.places ≤ 65536)

-- the lines that the row reads: its own, one above and one below, where they are
abbrev pub HasLines : OffsetRow → List ℕ → Type 0
HasLines row lines =
    row.width * (min (row.size * row.row + row.size + 1) row.height - (row.size * row.row - 1)) ≤ length lines

-- a row and its lines are those of a picture's component, whose deblocked plane is f
pub record StandsFor (row : OffsetRow) (lines : List ℕ) (plane : OffsetPlane) (f : ℕ → ℕ → ℕ) : Type 0 where
  pub width : plane.width ≡ row.width
  pub height : plane.height ≡ row.height
  pub size : plane.ctb_size ≡ row.size
  pub depth : plane.depth ≡ row.depth
  pub above : 0 < row.row → (u : ℕ) → row.size * u < row.width → plane.unit u (row.row - 1) ≡ unit_in row.above.now u
  pub here : (u : ℕ) → row.size * u < row.width → plane.unit u row.row ≡ unit_in row.here.now u
  pub below : row.size * row.row + row.size < row.height → (u : ℕ) → row.size * u < row.width
      → plane.unit u (row.row + 1) ≡ unit_in row.below.now u
  pub kept : (x j : ℕ) → x < row.width → j < lines_of row → plane.kept x (top row + j) ≡ kept_at row x (top row + j)
  pub samples : (x y : ℕ) → x < row.width → y < row.height → top row ≤ y + 1 → y ≤ top row + row.size
      → f x y ≡ samples_of row lines x y
