-- Prediction units that keep the motion beside them, and the coding tree units that have four of them, or one.
use Rattle.std.specs.Prelude.{◌≡◌, ◌⊎◌, ℕ, ◌*◌, ◌≤◌, false, pos, Option, Some, None}
use Rattle.std.specs.Int.RustNames.{FitsSigned}
use mir.Syntax.{w16}
use Rattle.ctu_records.specs.declared.item.Square.{Square}
use Rattle.ctu_records.specs.declared.prediction.MotionSyntax.{MotionSyntax}
use Rattle.ctu_records.specs.declared.prediction.Mv.{Mv}
use Rattle.ctu_records.specs.declared.prediction.PartMode.TheVariants.{Whole}
use Rattle.ctu_records.specs.declared.prediction.PredictionUnit.{PredictionUnit}
use Rattle.ctu_records.specs.declared.prediction.VectorSyntax.{VectorSyntax}
use Rattle.spec_motion.specs.declared.slice_motion.SliceMotion.{SliceMotion}
use Rattle.spec_motion.specs.declared.vectors.Motion.{Motion}
use Rattle.spec_motion.specs.declared.vectors.Vector.{Vector}
use Rattle.spec_motion.specs.Derivation.{motion_laid, prediction_motion}
use Rattle.spec_motion.specs.Vectors.{Beneath, Known}
use Rattle.made_motion_laws.specs.Uniform.{IsBeside, IsOrNone, block_of}

-- where all motion beside a prediction unit is this one, so is its own
abbrev pub Keeps : SliceMotion → Beneath → Motion → PredictionUnit → Type 0
Keeps slice beneath m unit =
    (known : Known) → IsBeside m known (block_of unit) → prediction_motion slice beneath known unit ≡ m

-- the prediction unit of a coding unit that is predicted whole
abbrev pub whole_part : Square → MotionSyntax → PredictionUnit
whole_part square motion = record { unit = square; part_mode = Whole; part = 0; motion = motion }

-- the coding unit of a coding tree unit of 4x4 places, and the four of one that is split
abbrev pub whole_square : Square
whole_square = record { x = 0; y = 0; log2_size = 2 }

abbrev pub quarter_square : ℕ → ℕ → Square
quarter_square column row = record { x = 2 * column; y = 2 * row; log2_size = 1 }

-- what is known behind four coding units, by what was read of the motion of each
abbrev pub four_laid : SliceMotion → Beneath → MotionSyntax → MotionSyntax → MotionSyntax → MotionSyntax → Known → Known
four_laid slice beneath a b c d known =
    motion_laid slice beneath
    (motion_laid slice beneath
    (motion_laid slice beneath
    (motion_laid slice beneath known (whole_part (quarter_square 0 0) a))
    (whole_part (quarter_square 1 0) b))
    (whole_part (quarter_square 0 1) c))
    (whole_part (quarter_square 1 1) d)

-- all motion beside a coding tree unit is this one; and all places at its left have it, or all above it
pub record IsBesideUnit (m : Motion) (known : Known) : Type 0 where
  pub each : (column row : ℕ) → IsOrNone m (known column row)
  pub some : ((k : ℕ) → 1 ≤ k → k ≤ 4 → known 0 k ≡ Some m) ⊎ ((k : ℕ) → 1 ≤ k → k ≤ 4 → known k 0 ≡ Some m)

-- no difference from the first predictor, by the first entry of a list
abbrev pub same_vector : VectorSyntax
same_vector = record { ref_idx = 0; mvd = record { x = pos 0; y = pos 0 }; mvp = false }

abbrev pub same_where : Option Vector → Option VectorSyntax
same_where None = None
same_where (Some v) = Some same_vector

-- a vector that is coded whole
abbrev pub coded_where : Option Vector → Option VectorSyntax
coded_where None = None
coded_where (Some v) = Some (record { ref_idx = 0; mvd = v.mv; mvp = false })

-- a vector of 16 bits that names the first entry of its list, where there is one
pub record IsFirst (v : Vector) : Type 0 where
  pub index : v.ref_idx ≡ 0
  pub x : FitsSigned w16 v.mv.x
  pub y : FitsSigned w16 v.mv.y

abbrev pub AreFirst : Option Vector → Type 0
AreFirst None = Unit {0}
AreFirst (Some v) = IsFirst v
