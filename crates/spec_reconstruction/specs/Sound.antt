-- The ranges of what is read of a unit, for which its samples are told: what its syntax and the sets that it belongs to
-- give.
use Rattle.std.specs.Prelude.{ℕ, ◌+◌, ◌-◌, ◌*◌, ◌^◌, ◌<◌, ◌≤◌, List, [], ◌∷◌, length, slice_index_or, Option, Some}
use Rattle.std.specs.Prelude.{None, ⊤}
use Rattle.std.specs.List.{All}
use Rattle.ctu_records.specs.declared.item.Item.{Item}
use Rattle.ctu_records.specs.declared.item.Item.TheVariants.{Chroma, Prediction, Pcm, Sample, Transform}
use Rattle.ctu_records.specs.declared.item.Item.TheVariants.{Block}
use Rattle.ctu_records.specs.declared.item.Square.{Square}
use Rattle.ctu_records.specs.declared.item.CodedBlock.{CodedBlock}
use Rattle.ctu_records.specs.declared.prediction.MotionSyntax.{MotionSyntax}
use Rattle.ctu_records.specs.declared.prediction.MotionSyntax.TheVariants.{Merge, Vectors}
use Rattle.ctu_records.specs.declared.prediction.PartMode.{PartMode}
use Rattle.ctu_records.specs.declared.prediction.PartMode.TheVariants.{Whole, TwoNxN, Nx2N}
use Rattle.ctu_records.specs.declared.prediction.PredictionUnit.{PredictionUnit}
use Rattle.ctu_records.specs.declared.prediction.VectorSyntax.{VectorSyntax}
use Rattle.ctu_records.specs.Tree.{IsPlaced, luma_mode_at, qp_at}
use Rattle.spec_reconstruction.specs.declared.format.UnitFormat.{UnitFormat}
use Rattle.spec_reconstruction.specs.Pulses.{sample_of}
use Rattle.spec_slice_data.specs.Inter.{part_count}
use Rattle.spec_slice_data.specs.Residual.{samples_of_place}
use Rattle.spec_transforms.specs.Scaling.{IsDepth, IsParameter}

-- bit depths of 8 to 14, and samples of pulse code modulation of no more bits
pub record IsFormat (format : UnitFormat) : Type 0 where
  pub luma : IsDepth format.luma_depth
  pub chroma : IsDepth format.chroma_depth
  pub pcm_luma : format.pcm_luma_bits ≤ format.luma_depth
  pub pcm_chroma : format.pcm_chroma_bits ≤ format.chroma_depth

-- a square of blocks of at most 32x32 luma samples in the greatest unit
pub record IsSquare (square : Square) : Type 0 where
  pub size : square.log2_size ≤ 3
  pub x : square.x + 2 ^ square.log2_size ≤ 16
  pub y : square.y + 2 ^ square.log2_size ≤ 16

-- a coded block in the greatest unit
pub record IsCoded (block : CodedBlock) : Type 0 where
  pub component : block.component < 3
  pub some : 2 ≤ block.log2_size
  pub few : block.log2_size ≤ 5
  pub column : block.x < 16
  pub row : block.y < 16
  pub x : samples_of_place block.component * block.x + 2 ^ block.log2_size ≤ 64
  pub y : samples_of_place block.component * block.y + 2 ^ block.log2_size ≤ 64

-- the binary logarithm of the least side in places of a coding unit with such parts: a part has at least 8x4 or 4x8
-- luma samples, or 8x8 of four
abbrev pub least_size : PartMode → ℕ
least_size Whole = 1
least_size TwoNxN = 1
least_size Nx2N = 1
least_size other = 2

-- a vector that names one of at most 16 references, where there is one
abbrev pub IsVector : Option VectorSyntax → Type 0
IsVector None = ⊤
IsVector (Some vector) = vector.ref_idx < 16

-- an index of at most five candidates, or vectors
abbrev pub IsMotion : MotionSyntax → Type 0
IsMotion (Merge index) = index < 5
IsMotion (Vectors first second) = IsVector first × IsVector second

-- a prediction unit in the greatest unit
pub record IsPrediction (unit : PredictionUnit) : Type 0 where
  pub placed : IsPlaced unit.unit
  pub size : least_size unit.part_mode ≤ unit.unit.log2_size
  pub part : unit.part < part_count unit.part_mode
  pub motion : IsMotion unit.motion

-- what is read of a unit, in its range
abbrev pub IsSound : UnitFormat → Item → Type 0
IsSound format (Chroma mode) = mode ≤ 34
IsSound format (Prediction unit) = IsPrediction unit
IsSound format (Pcm square) = IsSquare square × (1 ≤ square.log2_size)
IsSound format (Transform unit) = IsSquare unit.square
IsSound format (Block block) = IsCoded block
IsSound format other = ⊤

-- the items behind a square by pulse code modulation begin with its samples: those of luma have as many bits as are
-- read of each, and so have those of chroma
pub record HasPulses (format : UnitFormat) (square : Square) (items : List Item) : Type 0 where
  pub count : 24 * 4 ^ square.log2_size ≤ length items
  pub luma : (k : ℕ) → k < 16 * 4 ^ square.log2_size
      → sample_of (slice_index_or items k (Sample 0)) < 2 ^ format.pcm_luma_bits
  pub chroma : (k : ℕ) → 16 * 4 ^ square.log2_size ≤ k → k < 24 * 4 ^ square.log2_size
      → sample_of (slice_index_or items k (Sample 0)) < 2 ^ format.pcm_chroma_bits

-- the samples behind an item that begins them are in their range
abbrev pub BeginsPulses : UnitFormat → Item → List Item → Type 0
BeginsPulses format (Pcm square) items = HasPulses format square items
BeginsPulses format other items = ⊤

-- each square by pulse code modulation has its samples behind it
unfoldable pub ArePulses : UnitFormat → List Item → Type 0
ArePulses format [] = ⊤
ArePulses format (item ∷ items) = BeginsPulses format item items × ArePulses format items

-- the items of a unit
pub record AreSound (format : UnitFormat) (items : List Item) : Type 0 where
  pub each : All (IsSound format) items
  pub pulses : ArePulses format items
  pub modes : (i j : ℕ) → luma_mode_at items i j ≤ 34
  pub parameters : (i j : ℕ) → IsParameter format.luma_depth (qp_at items i j)
