-- Values by column and row.
use Rattle.std.specs.Prelude.{◌≡◌, ℕ, ◌+◌, ◌*◌, ◌≤◌, ◌&&◌, nat_lt, List, length, slice_index_or, if◌then◌else◌}

-- as many columns and rows of values, row after row
pub record Cells (X : Type 0) : Type 0 where
  pub across : ℕ
  pub down : ℕ
  pub cells : List X

-- a value for each column of each row, at most 2048 of them
pub record AreCells {X : Type 0} (across down : ℕ) (cells : List X) : Type 0 where
  pub columns : across ≤ 2048
  pub rows : down ≤ 2048
  pub count : length cells ≡ across * down

-- the value in a column of a row; the given one outside
unfoldable pub cell : {X : Type 0} → X → Cells X → ℕ → ℕ → X
cell outside grid x y =
    if nat_lt x grid.across && nat_lt y grid.down then slice_index_or grid.cells (grid.across * y + x) outside
    else outside

-- values in so many columns and rows
pub record HasCells {X : Type 0} (grid : Cells X) (across down : ℕ) : Type 0 where
  pub columns : grid.across ≡ across
  pub rows : grid.down ≡ down
