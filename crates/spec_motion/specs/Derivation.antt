-- The motion of prediction units, one after the other (8.5.3.2).
use Rattle.std.specs.Prelude.{ℕ, ◌+◌, ◌≤◌, ◌^◌, ℤ, ◌+ℤ◌, Option, Some, None, if◌then◌else◌}
use Rattle.std.specs.Int.{int_wrap}
use mir.Syntax.{w16}
use Rattle.ctu_records.specs.declared.prediction.MotionSyntax.{MotionSyntax}
use Rattle.ctu_records.specs.declared.prediction.MotionSyntax.TheVariants.{Merge, Vectors}
use Rattle.ctu_records.specs.declared.prediction.Mv.{Mv}
use Rattle.ctu_records.specs.declared.prediction.PredictionUnit.{PredictionUnit}
use Rattle.ctu_records.specs.declared.prediction.Rectangle.{Rectangle}
use Rattle.ctu_records.specs.declared.prediction.VectorSyntax.{VectorSyntax}
use Rattle.ctu_records.specs.Prediction.{is_inside, part_block}
use Rattle.spec_motion.specs.declared.slice_motion.SliceMotion.{SliceMotion}
use Rattle.spec_motion.specs.declared.vectors.Motion.{Motion}
use Rattle.spec_motion.specs.declared.vectors.Vector.{Vector}
use Rattle.spec_motion.specs.Vectors.{Beneath, Known}
use Rattle.spec_motion.specs.Merging.{merged}
use Rattle.spec_motion.specs.VectorPrediction.{predicted_mv}

-- a predictor and a difference, as numbers of 16 bits: uLX is their sum modulo 2^16
abbrev pub wrapped : ℤ → ℤ → ℤ
wrapped predictor difference = int_wrap w16 (predictor +ℤ difference)

-- uLX of both coordinates
abbrev pub sum_of : Mv → Mv → Mv
sum_of predictor difference = record { x = wrapped predictor.x difference.x; y = wrapped predictor.y difference.y }

-- MvLX and RefIdxLX of a vector that is coded
unfoldable pub coded_vector : SliceMotion → Beneath → Known → Rectangle → ℕ → Option VectorSyntax → Option Vector
coded_vector slice beneath known block list None = None
coded_vector slice beneath known block list (Some v) =
    Some (record {
      mv = sum_of (predicted_mv slice beneath known block list v.ref_idx v.mvp) v.mvd;
      ref_idx = v.ref_idx;
    })

-- the motion of a prediction unit by what was read of it
abbrev pub motion_by : SliceMotion → Beneath → Known → PredictionUnit → MotionSyntax → Motion
motion_by slice beneath known unit (Merge index) = merged slice beneath known unit index
motion_by slice beneath known unit (Vectors first second) = record {
  list_0 = coded_vector slice beneath known (part_block unit.unit unit.part_mode unit.part) 0 first;
  list_1 = coded_vector slice beneath known (part_block unit.unit unit.part_mode unit.part) 1 second;
}

-- the motion of a prediction unit
unfoldable pub prediction_motion : SliceMotion → Beneath → Known → PredictionUnit → Motion
prediction_motion slice beneath known unit = motion_by slice beneath known unit unit.motion

-- a block of one motion over what was known; the block is counted from 0
unfoldable pub motion_over : Rectangle → Motion → Known → Known
motion_over block motion known column row =
    if is_inside (record { x = block.x + 1; y = block.y + 1; width = block.width; height = block.height }) column row
    then Some motion
    else known column row

-- what is known once a prediction unit is derived
unfoldable pub motion_laid : SliceMotion → Beneath → Known → PredictionUnit → Known
motion_laid slice beneath known unit =
    motion_over (part_block unit.unit unit.part_mode unit.part) (prediction_motion slice beneath known unit) known

-- a part of a coding unit that lies in a coding tree unit of 16 places a side, at most
pub record IsPlaced (unit : PredictionUnit) : Type 0 where
  pub few : unit.unit.log2_size ≤ 4
  pub column : unit.unit.x + 2 ^ unit.unit.log2_size ≤ 16
  pub row : unit.unit.y + 2 ^ unit.unit.log2_size ≤ 16
  pub part : unit.part ≤ 3

-- a block that lies in it
pub record IsBlock (block : Rectangle) : Type 0 where
  pub column : block.x + block.width ≤ 16
  pub row : block.y + block.height ≤ 16
