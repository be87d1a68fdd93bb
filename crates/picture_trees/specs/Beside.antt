-- What is kept of the coding tree units before one.
use Rattle.std.specs.Prelude.{ℕ, List, slice_index_or, slice_set}
use Rattle.ctu_records.specs.Tree.{Ctu}
use Rattle.unit_trees.specs.declared.edges.Edge.{Edge}
use Rattle.unit_trees.specs.Edges.{bottom_of, no_edge, right_of}

-- a unit's side in places, what the unit before one leaves to the right, and what the last unit of each column leaves
-- to
-- the one below it
pub record UnitsBeside : Type 0 where
  pub side : ℕ
  pub left : Edge
  pub columns : List Edge

-- what the last unit of a column leaves
abbrev pub above_at : UnitsBeside → ℕ → Edge
above_at b column = slice_index_or b.columns column no_edge

-- the unit in this column was read
abbrev pub behind : UnitsBeside → ℕ → Ctu → UnitsBeside
behind b column ctu = record {
  side = b.side;
  left = right_of b.side ctu;
  columns = slice_set b.columns column (bottom_of b.side ctu);
}
