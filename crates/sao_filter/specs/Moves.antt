-- How the samples of a block with band offset are moved.
use Rattle.std.specs.Prelude.{◌≡◌, ℕ, ◌+◌, ◌/◌, ◌%◌, ◌^◌, ◌<◌, min, List, ℤ, slice_index_or}
use Rattle.spec_sample_adaptive_offset.specs.Offsets.{band_moved}
use Rattle.sao_filter.specs.declared.changes.BandMoves.{BandMoves}
use Rattle.sao_filter.specs.Units.{on_base}

-- a table tells what is added to samples by where their bands stand from one on, on 32768
abbrev pub AreBandMoves : ℕ → ℕ → List ℤ → BandMoves → Type 0
AreBandMoves depth position offsets moves =
    (s : ℕ) → s < 65536
    → on_base s (slice_index_or moves.table (min ((s / 2 ^ moves.shift + moves.before) % 32) 4) 0) moves.greatest
    ≡ band_moved depth position offsets s
