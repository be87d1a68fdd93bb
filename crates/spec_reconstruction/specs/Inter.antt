-- The inter prediction of a coding tree unit (8.5.3.3): the samples of its prediction units by their motion.
use Rattle.std.specs.Prelude.{ℕ, ◌+◌, ◌-◌, ◌*◌, ◌==◌, ◌&&◌, Option, Some, None, ℤ, if◌then◌else◌}
use Rattle.ctu_records.specs.declared.prediction.PredictionUnit.{PredictionUnit}
use Rattle.ctu_records.specs.declared.prediction.Rectangle.{Rectangle}
use Rattle.ctu_records.specs.Prediction.{is_inside, part_block, rectangle}
use Rattle.spec_motion.specs.declared.slice_motion.SliceMotion.{SliceMotion}
use Rattle.spec_motion.specs.declared.vectors.Motion.{Motion}
use Rattle.spec_motion.specs.declared.vectors.Vector.{Vector}
use Rattle.spec_motion.specs.Vectors.{reference_in}
use Rattle.spec_motion.specs.Vectors as motion
use Rattle.spec_inter_prediction.specs.declared.tables.SliceWeighting.{SliceWeighting}
use Rattle.spec_inter_prediction.specs.declared.weighting.Weighting.{Weighting}
use Rattle.spec_inter_prediction.specs.Chroma.{chroma_sample}
use Rattle.spec_inter_prediction.specs.Luma.{luma_sample}
use Rattle.spec_inter_prediction.specs.Tables.{weighting_of}
use Rattle.spec_inter_prediction.specs.Weighting.{weighted_one, weighted_two}
use Rattle.spec_reconstruction.specs.declared.format.UnitFormat.{UnitFormat}
use Rattle.spec_reconstruction.specs.Known.{Known}
use Rattle.spec_reconstruction.specs.Parameters.{depth_of}
use Rattle.spec_slice_data.specs.Residual.{samples_of_place}

-- the samples of the pictures of the decoded picture buffer, by place there, component, column and line: outside a
-- picture those of its nearest sample (8.5.3.3.3)
abbrev pub Pictures : Type 0
Pictures = ℕ → ℕ → ℤ → ℤ → ℕ

-- what the inter prediction of a unit depends on
pub record InterUnit : Type 0 where
  -- the motion of the unit and beside it
  pub motion : motion.Known
  -- the slice, with its reference picture lists
  pub slice : SliceMotion
  pub weighting : SliceWeighting
  pub pictures : Pictures
  -- the column and the row of the unit's first place of 4x4 luma samples in the picture
  pub column : ℕ
  pub row : ℕ

-- predSamplesLX of a component at a column and a line of the picture, by a vector of a list
unfoldable pub predicted_by : UnitFormat → InterUnit → ℕ → ℕ → Vector → ℕ → ℕ → ℤ
predicted_by format inter list c v x y =
    if c == 0
    then luma_sample format.luma_depth
    (inter.pictures (reference_in inter.slice list v.ref_idx).picture 0) v.mv.x v.mv.y x y
    else chroma_sample format.chroma_depth
    (inter.pictures (reference_in inter.slice list v.ref_idx).picture c) v.mv.x v.mv.y x y

-- the reference index of a vector, where there is one
abbrev pub index_of : Option Vector → ℕ
index_of None = 0
index_of (Some v) = v.ref_idx

-- the weights of a component by a motion
abbrev pub motion_weighting : InterUnit → ℕ → Motion → Weighting
motion_weighting inter c motion = weighting_of inter.weighting c (index_of motion.list_0) (index_of motion.list_1)

-- a sample of a component by vectors of the lists; motion by neither list has none
unfoldable pub sample_by : UnitFormat → InterUnit → ℕ → Weighting → Option Vector → Option Vector → ℕ → ℕ → ℕ
sample_by format inter c weighting None None x y = 0
sample_by format inter c weighting (Some v) None x y =
    weighted_one (depth_of format c) weighting 0 (predicted_by format inter 0 c v x y)
sample_by format inter c weighting None (Some w) x y =
    weighted_one (depth_of format c) weighting 1 (predicted_by format inter 1 c w x y)
sample_by format inter c weighting (Some v) (Some w) x y =
    weighted_two (depth_of format c) weighting (predicted_by format inter 0 c v x y)
    (predicted_by format inter 1 c w x y)

-- a sample of a component by a motion, at a column and a line of the picture
abbrev pub inter_sample : UnitFormat → InterUnit → ℕ → Motion → ℕ → ℕ → ℕ
inter_sample format inter c motion x y =
    sample_by format inter c (motion_weighting inter c motion) motion.list_0 motion.list_1 x y

-- a block of places in samples of a component; both are counted from a unit's first one
abbrev pub samples_of : ℕ → Rectangle → Rectangle
samples_of c block =
    rectangle (samples_of_place c * block.x) (samples_of_place c * block.y) (samples_of_place c * block.width)
    (samples_of_place c * block.height)

-- a rectangle of samples of a component over what was there, each by its column and line, counted from 0
unfoldable pub rectangle_laid : ℕ → Rectangle → (ℕ → ℕ → ℕ) → Known → Known
rectangle_laid c block samples known component column line =
    if component == c && is_inside (rectangle (block.x + 1) (block.y + 1) block.width block.height) column line
    then Some (samples (column - 1) (line - 1))
    else known component column line

-- the samples of a component of a block of places by a motion
unfoldable pub component_predicted : UnitFormat → InterUnit → Rectangle → Motion → ℕ → Known → Known
component_predicted format inter block motion c known =
    rectangle_laid c (samples_of c block)
    (λ x y. inter_sample format inter c motion (samples_of_place c * inter.column + x)
    (samples_of_place c * inter.row + y))
    known

-- a block by its motion, where it has one
abbrev pub block_predicted_by : UnitFormat → InterUnit → Rectangle → Option Motion → Known → Known
block_predicted_by format inter block None known = known
block_predicted_by format inter block (Some motion) known =
    component_predicted format inter block motion 2
    (component_predicted format inter block motion 1
    (component_predicted format inter block motion 0 known))

-- the block of a prediction unit, by the motion of its first place
unfoldable pub prediction_laid : UnitFormat → InterUnit → PredictionUnit → Known → Known
prediction_laid format inter unit known =
    let block : Rectangle = part_block unit.unit unit.part_mode unit.part in
    block_predicted_by format inter block (inter.motion (block.x + 1) (block.y + 1)) known
