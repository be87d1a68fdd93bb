-- Samples by pulse code modulation (8.4.4.1, 7.4.9.7).
use Rattle.std.specs.Prelude.{ℕ, ◌+◌, ◌-◌, ◌*◌, ◌^◌, List, slice_index_or}
use Rattle.ctu_records.specs.declared.item.Item.{Item}
use Rattle.ctu_records.specs.declared.item.Item.TheVariants.{Sample}
use Rattle.ctu_records.specs.declared.item.Square.{Square}
use Rattle.spec_reconstruction.specs.declared.format.UnitFormat.{UnitFormat}
use Rattle.spec_reconstruction.specs.Known.{Known, laid}

-- the value of an item that is a sample
abbrev pub sample_of : Item → ℕ
sample_of (Sample value) = value
sample_of other = 0

-- a square of such samples, row after row from a number on, shifted up to the bit depth
abbrev pub shifted : ℕ → ℕ → List Item → ℕ → ℕ → ℕ → ℕ
shifted places first items n x y = sample_of (slice_index_or items (first + n * y + x) (Sample 0)) * 2 ^ places

-- a coding unit's samples, by the items behind it: luma, Cb, Cr
unfoldable pub pulses_laid : UnitFormat → Square → List Item → Known → Known
pulses_laid format square items known =
    let n : ℕ = 4 * 2 ^ square.log2_size in
    let half : ℕ = 2 * 2 ^ square.log2_size in
    let luma : ℕ = format.luma_depth - format.pcm_luma_bits in
    let chroma : ℕ = format.chroma_depth - format.pcm_chroma_bits in
    laid 2 (2 * square.x) (2 * square.y) half (shifted chroma (n * n + half * half) items half)
    (laid 1 (2 * square.x) (2 * square.y) half (shifted chroma (n * n) items half)
    (laid 0 (4 * square.x) (4 * square.y) n (shifted luma 0 items n) known))
