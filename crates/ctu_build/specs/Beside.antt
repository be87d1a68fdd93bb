-- The cells of the neighbours of an intra block.
use Rattle.std.specs.Prelude.{◌≡◌, ℕ, ◌+◌, ◌-◌, ◌*◌, ◌<◌, ◌≤◌, Bool, true, false, length, slice_index_or}
use Rattle.ctu_build.specs.declared.edge.Beside.{Beside}

abbrev pub is_known : Beside → ℕ → Bool
is_known beside cell = slice_index_or beside.known.now cell false

abbrev pub value_in : Beside → ℕ → ℕ
value_in beside cell = slice_index_or beside.values.now cell 0

-- of a neighbour on the left, counted from the bottom up to the corner, and of one above, counted on from there
abbrev pub left_cell : Beside → ℕ → ℕ
left_cell beside k = beside.corner + 129 * (4 * beside.groups - k)

abbrev pub above_cell : Beside → ℕ → ℕ
above_cell beside k = beside.corner + (k - 4 * beside.groups)

-- cells of a unit, with at most 64 neighbours on a side
pub record AreBeside (beside : Beside) : Type 0 where
  pub groups : beside.groups ≤ 16
  pub corner : beside.corner + 4 * beside.groups < 25155
  pub values : length beside.values.now ≡ 25155
  pub known : length beside.known.now ≡ 25155

-- a cell that is known, and what was copied of it
pub record IsCopied (beside : Beside) (cell sample : ℕ) : Type 0 where
  pub known : is_known beside cell ≡ true
  pub value : sample ≡ value_in beside cell
