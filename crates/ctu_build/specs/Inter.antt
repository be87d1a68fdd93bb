-- What the samples of a unit depend on by its motion.
use Rattle.std.specs.Prelude.{◌≤◌, None, if◌then◌else◌}
use Rattle.ctu_motion.specs.Held as unit_motion
use Rattle.inter_samples.specs.declared.inter.UnitInter.{UnitInter}
use Rattle.inter_samples.specs.Inter.{AreSmall, inter_unit}
use Rattle.spec_reconstruction.specs.SpecInterPrediction.{IsSliceWeighting}
use Rattle.spec_motion.specs.Vectors as motion
use Rattle.spec_reconstruction.specs.declared.format.UnitFormat.{UnitFormat}
use Rattle.spec_reconstruction.specs.Inter.{InterUnit, Pictures}
use Rattle.spec_reconstruction.specs.Known.{Known}
use Rattle.spec_reconstruction.specs.Prediction.{is_inter}
use Rattle.spec_reconstruction.specs.Sound.{IsFormat}

-- with the pictures that it refers to
abbrev pub inter_of : UnitInter → Pictures → InterUnit
inter_of inter pictures =
    inter_unit (unit_motion.held inter.motion.now) inter.slice.now inter.weighting.now pictures inter.column inter.row

-- what a unit's format, its inter prediction and its pictures are in the range of
pub record IsReady (format : UnitFormat) (inter : UnitInter) (pictures : Pictures) : Type 0 where
  pub depths : IsFormat format
  pub weighting : IsSliceWeighting inter.weighting.now
  pub place : (inter.column ≤ 8192) × (inter.row ≤ 8192)
  pub small : AreSmall format pictures

-- the samples that aren't predicted in inter mode
unfoldable pub intra_known : motion.Known → Known → Known
intra_known motion known c column line = if is_inter motion c column line then None else known c column line
