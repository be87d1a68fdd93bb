-- The samples that the cells of a unit have.
use Rattle.std.specs.Prelude.{◌≡◌, ℕ, ◌+◌, ◌*◌, ◌^◌, ◌<◌, ◌≤◌, ◌&&◌, nat_lt, ◌==◌, Bool, false, ℤ, pos, ◌+ℤ◌, Option}
use Rattle.std.specs.Prelude.{Some, None, List, slice_index_or, if◌then◌else◌}
use Rattle.spec_arithmetic.specs.Clipping.{clip1}
use Rattle.ctu_records.specs.declared.item.CodedBlock.{CodedBlock}
use Rattle.ctu_records.specs.declared.item.Square.{Square}
use Rattle.ctu_records.specs.Places.{inside}
use Rattle.spec_reconstruction.specs.Known.{Known}
use Rattle.spec_reconstruction.specs.SpecSliceData.{samples_of_place}
use Rattle.ctu_build.specs.declared.extents.Extents.{Extents}
use Rattle.ctu_build.specs.declared.place.Place.{Place}

-- where a sample's cell is: three components of 65 lines of 129 cells
abbrev pub cell : ℕ → ℕ → ℕ → ℕ
cell c column line = 8385 * c + 129 * line + column

-- what cells have, and in which of them a sample is known
pub record Cells : Type 0 where
  pub values : List ℕ
  pub known : List Bool

-- what is known in a cell
abbrev pub in_cell : Cells → ℕ → Option ℕ
in_cell cells k = if slice_index_or cells.known k false then Some (slice_index_or cells.values k 0) else None

unfoldable pub held : Cells → Known
held cells c column line =
    if nat_lt c 3 && (nat_lt column 129 && nat_lt line 65) then in_cell cells (cell c column line) else None

-- how many lines of a component are in use
abbrev pub lines_of : Extents → ℕ → ℕ
lines_of extents c = if c == 0 then extents.luma else (if c == 1 then extents.cb else extents.cr)

-- cells that have 0 where no sample is known, as in all lines of a component from one on
pub record AreCells (values : List ℕ) (known : List Bool) (extents : Extents) : Type 0 where
  pub few : (c : ℕ) → lines_of extents c ≤ 65
  pub luma : extents.luma ≤ 65
  pub cb : extents.cb ≤ 65
  pub cr : extents.cr ≤ 65
  pub zeros : (c i j : ℕ) → c < 3 → i < 129 → j < 65 → slice_index_or known (cell c i j) false ≡ false
      → slice_index_or values (cell c i j) 0 ≡ 0
  pub unused : (c i j : ℕ) → c < 3 → i < 129 → j < 65 → lines_of extents c ≤ j
      → slice_index_or known (cell c i j) false ≡ false

-- a sample and a residual, where the sample is known
unfoldable pub added : ℕ → Bool → ℤ → ℕ → ℕ
added depth known residual sample = if known then clip1 depth (pos sample +ℤ residual) else sample

-- samples in rows of a block
abbrev pub block_of : ℕ → List ℕ → ℕ → ℕ → ℕ
block_of n samples x y = slice_index_or samples (n * y + x) 0

-- whether a sample is in a square of a component
abbrev pub inside_of : Place → ℕ → ℕ → ℕ → ℕ → Bool
inside_of place n c column line = c == place.c && inside (place.x + 1) (place.y + 1) n column line

-- a square that lies in a unit
pub record IsInside (place : Place) : Type 0 where
  pub component : place.c < 3
  pub some : 2 ≤ place.log2
  pub few : place.log2 ≤ 5
  pub x : place.x + 2 ^ place.log2 ≤ 64
  pub y : place.y + 2 ^ place.log2 ≤ 64

-- the places of a coded block, and of a square in luma and in chroma
abbrev pub place_of : CodedBlock → Place
place_of block = record {
  c = block.component;
  x = samples_of_place block.component * block.x;
  y = samples_of_place block.component * block.y;
  log2 = block.log2_size;
}

abbrev pub luma_place : Square → Place
luma_place square = record { c = 0; x = 4 * square.x; y = 4 * square.y; log2 = square.log2_size + 2 }

abbrev pub chroma_place : ℕ → Square → Place
chroma_place c square = record { c = c; x = 2 * square.x; y = 2 * square.y; log2 = square.log2_size + 1 }
