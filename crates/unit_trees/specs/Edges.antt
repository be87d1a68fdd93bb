-- What coding tree units leave to those beside them.
use Rattle.std.specs.Prelude.{ℕ, ◌+◌, ◌-◌, ◌/◌, ◌==◌, List, slice_index_or, replicate, nat_lt, if◌then◌else◌}
use Rattle.ctu_records.specs.declared.side.Side.{Side}
use Rattle.ctu_records.specs.declared.offset.Sao.{Sao}
use Rattle.ctu_records.specs.Tree.{Ctu, no_side, side}
use Rattle.spec_slice_data.specs.Offset.{no_sao}
use Rattle.spec_slice_data.specs.Segment.{side_of}
use Rattle.unit_trees.specs.declared.edges.Edge.{Edge}

-- that of no unit
abbrev pub no_edge : Edge
no_edge = record { places = replicate 16 no_side; sao = no_sao }

-- what a unit of so many places a side leaves to the one on its right
abbrev pub right_of : ℕ → Ctu → Edge
right_of n ctu = record { places = side 16 (λ k. side_of ctu (n - 1) k); sao = ctu.sao }

-- what it leaves to the one below it
abbrev pub bottom_of : ℕ → Ctu → Edge
bottom_of n ctu = record { places = side 16 (λ k. side_of ctu k (n - 1)); sao = ctu.sao }

-- a place of an edge
abbrev pub place_of : Edge → ℕ → Side
place_of edge k = slice_index_or edge.places k no_side

-- the place of a luma sample beside a unit whose first luma sample stands at x0 and y0
abbrev pub seen_beside : Edge → Edge → ℕ → ℕ → ℕ → ℕ → Side
seen_beside left above x0 y0 x y =
    if nat_lt y y0 then place_of above ((x - x0) / 4) else place_of left ((y - y0) / 4)

-- the sample adaptive offset of a unit beside the one at an address
abbrev pub offset_beside : Edge → Edge → ℕ → ℕ → ℕ → Sao
offset_beside left above address width ctu = if ctu + width == address then above.sao else left.sao
