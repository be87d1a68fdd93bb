-- The units that the samples of a run read.
use Rattle.std.specs.Prelude.{◌≡◌, ◌<◌, ◌≤◌, ℕ, ◌+◌, ◌-◌, ◌*◌, ◌==◌, nat_lt, min, Bool, true, ◌&&◌, List, ℤ, pos}
use Rattle.std.specs.Prelude.{slice_index_or, if◌then◌else◌}
use Rattle.spec_sample_adaptive_offset.specs.Plane.{OffsetPlane, may_read, meets}
use Rattle.spec_sample_adaptive_offset.specs.Offsets.{offset_value, band_index, edge_idx, moved}
use Rattle.sao_filter.specs.declared.row.OffsetRow.{OffsetRow}
use Rattle.sao_filter.specs.declared.block.CodingTreeBlock.{CodingTreeBlock}
use Rattle.sao_filter.specs.Row.{top, lines_of, plane_of}

-- the unit that a neighbour stands in, counted as the neighbour is: 0, 1, 2 are before, at and behind
abbrev pub shift : ℕ → Bool → Bool → ℕ
shift h first last = if h == 0 && first then 0 else (if h == 2 && last then 2 else 1)

-- whether samples of a unit may be compared with those of the unit beside it
abbrev pub reads_unit : OffsetPlane → ℕ → ℕ → ℕ → ℕ → Bool
reads_unit p k r h v =
    ((nat_lt 0 (k + h) && nat_lt (p.ctb_size * (k + h - 1)) p.width)
    && (nat_lt 0 (r + v) && nat_lt (p.ctb_size * (r + v - 1)) p.height))
    && meets (p.unit k r) (p.unit (k + h - 1) (r + v - 1))

-- a block of the row
pub record IsBlock (row : OffsetRow) (block : CodingTreeBlock) : Type 0 where
  pub from : block.from ≡ row.size * block.k
  pub to : block.to ≡ min (row.size * block.k + row.size) row.width
  pub some : block.from < block.to
  pub lines : block.lines ≡ lines_of row
  pub skip : block.skip ≡ min (top row) 1

-- a line of a block between its first and its last
pub record IsBetween (block : CodingTreeBlock) (line : ℕ) : Type 0 where
  pub first : 0 < line
  pub last : line + 1 < block.lines

-- both neighbours of each sample of a line of a block may be read; where the first one stands is counted as in may_read
abbrev pub ReadsLine : OffsetRow → CodingTreeBlock → ℕ → ℕ → ℕ → Type 0
ReadsLine row block across down line =
    (i : ℕ) → block.from ≤ i → i < block.to
    → (may_read (plane_of row) i (top row + line) across down
    && may_read (plane_of row) i (top row + line) (2 - across) (2 - down)) ≡ true

-- a sample with what is added to it, which is told on 32768, held to 16 bits and to the greatest sample
abbrev pub on_base : ℕ → ℕ → ℕ → ℕ
on_base sample change greatest = min (min (sample + (change - 32768)) 65535 - (32768 - change)) greatest

abbrev pub IsBandTable : ℕ → ℕ → List ℤ → List ℤ → Type 0
IsBandTable depth position offsets table =
    (k : ℕ) → k < 32 → slice_index_or table k (pos 0) ≡ offset_value depth offsets (band_index position k)

abbrev pub IsEdgeTable : ℕ → List ℤ → List ℤ → Type 0
IsEdgeTable depth offsets table =
    (k : ℕ) → k < 5 → slice_index_or table k (pos 0) ≡ offset_value depth offsets (edge_idx k)

-- a table tells what is added to samples by the signs of their differences, on 32768
abbrev pub AreMoves : ℕ → List ℤ → List ℕ → ℕ → Type 0
AreMoves depth offsets table greatest =
    (s p : ℕ) → s < 65536 → p < 5
    → on_base s (slice_index_or table p 0) greatest ≡ moved depth s (offset_value depth offsets (edge_idx p))
