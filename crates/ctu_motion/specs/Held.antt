-- The motion that the cells of a unit have.
use Rattle.std.specs.Prelude.{◌≡◌, ℕ, ◌+◌, ◌*◌, ◌<◌, ◌&&◌, nat_lt, Bool, true, List, Option, None, slice_index_or}
use Rattle.std.specs.Prelude.{if◌then◌else◌}
use Rattle.spec_motion.specs.declared.collocation.Collocated.{Collocated}
use Rattle.spec_motion.specs.declared.vectors.Motion.{Motion}
use Rattle.spec_motion.specs.Vectors.{Beneath, Known}

-- the motion of 34 places in each of 17 rows, the first column and the first row beside the unit, the row as far as
-- twice its side; that of the collocated picture in four rows of five blocks; and whether the last motion was laid over
-- all places of a unit of the greatest size
pub record Cells : Type 0 where
  pub places : List (Option Motion)
  pub beneath : List (Option Collocated)
  pub whole : Bool

-- where a place's cell is, and a block's
abbrev pub cell : ℕ → ℕ → ℕ
cell column row = 34 * row + column

abbrev pub block_cell : ℕ → ℕ → ℕ
block_cell column row = 5 * row + column

unfoldable pub held : Cells → Known
held cells column row =
    if nat_lt column 34 && nat_lt row 17 then slice_index_or cells.places (cell column row) None else None

unfoldable pub held_beneath : Cells → Beneath
held_beneath cells column row =
    if nat_lt column 5 && nat_lt row 4 then slice_index_or cells.beneath (block_cell column row) None else None

-- where one motion was laid over all places of a unit of the greatest size, they have it
abbrev pub AreWhole : Bool → List (Option Motion) → Type 0
AreWhole whole places = whole ≡ true → (i j : ℕ) → i < 16 → j < 16
    → slice_index_or places (cell (i + 1) (j + 1)) None ≡ slice_index_or places (cell 1 1) None
