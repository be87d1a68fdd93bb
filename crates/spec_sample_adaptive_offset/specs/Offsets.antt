-- The offsets of a component of a coding tree unit, and which of them a sample has (7.4.9.3, 8.7.3.2).
use Rattle.std.specs.Prelude.{ℕ, ◌+◌, ◌-◌, ◌/◌, ◌%◌, ◌^◌, ◌==◌, min, nat_lt, ℤ, pos, ◌+ℤ◌, ◌*ℤ◌, List, slice_index_or}
use Rattle.std.specs.Prelude.{if◌then◌else◌}
use Rattle.block_geometry.specs.SpecArithmetic.{clip1}

-- SaoOffsetVal: none at index 0, and the four offsets, which are coded for up to 10 bits, from 1 on
unfoldable pub offset_value : ℕ → List ℤ → ℕ → ℤ
offset_value depth offsets index =
    if index == 0 then pos 0 else slice_index_or offsets (index - 1) (pos 0) *ℤ pos (2 ^ (depth - min depth 10))

-- bandTable: 1 to 4 for the four bands from sao_band_position on, counted modulo 32
unfoldable pub band_index : ℕ → ℕ → ℕ
band_index position band =
    if nat_lt ((band + (32 - position % 32)) % 32) 4 then (band + (32 - position % 32)) % 32 + 1 else 0

-- one more than Sign(sample - other)
abbrev pub compared : ℕ → ℕ → ℕ
compared sample other = if nat_lt sample other then 0 else (if sample == other then 1 else 2)

-- edgeIdx, by 2 and the signs of the differences from both neighbours
unfoldable pub edge_idx : ℕ → ℕ
edge_idx signs = if signs == 0 then 1 else (if signs == 1 then 2 else (if signs == 2 then 0 else signs))

-- a sample with its offset: Clip1
unfoldable pub moved : ℕ → ℕ → ℤ → ℕ
moved depth sample offset = clip1 depth (pos sample +ℤ offset)

-- a sample by band offset
abbrev pub band_moved : ℕ → ℕ → List ℤ → ℕ → ℕ
band_moved depth position offsets sample =
    moved depth sample (offset_value depth offsets (band_index position (sample / 2 ^ (depth - 5))))

-- a sample by edge offset, between its two neighbours
abbrev pub edge_moved : ℕ → List ℤ → ℕ → ℕ → ℕ → ℕ
edge_moved depth offsets sample first second =
    moved depth sample (offset_value depth offsets (edge_idx (compared sample first + compared sample second)))
