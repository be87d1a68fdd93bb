-- What inter prediction depends on.
use Rattle.std.specs.Prelude.{ℕ, ◌^◌, ◌<◌, ◌≤◌, ℤ}
use Rattle.inter_samples.specs.declared.lists.Part.{Part}
use Rattle.spec_inter_prediction.specs.declared.tables.SliceWeighting.{SliceWeighting}
use Rattle.spec_motion.specs.declared.slice_motion.SliceMotion.{SliceMotion}
use Rattle.spec_motion.specs.Vectors.{Known}
use Rattle.spec_reconstruction.specs.declared.format.UnitFormat.{UnitFormat}
use Rattle.spec_reconstruction.specs.Inter.{InterUnit, Pictures}
use Rattle.spec_reconstruction.specs.Parameters.{depth_of}

-- by its parts
abbrev pub inter_unit : Known → SliceMotion → SliceWeighting → Pictures → ℕ → ℕ → InterUnit
inter_unit motion slice weighting pictures column row =
    record { motion = motion; slice = slice; weighting = weighting; pictures = pictures; column = column; row = row }

-- a block of a component: of at most 64 samples a side, and at most 65536 samples behind the picture's first one
pub record IsPart (part : Part) : Type 0 where
  pub width : part.block.width ≤ 64
  pub height : part.block.height ≤ 64
  pub x : part.block.x ≤ 65536
  pub y : part.block.y ≤ 65536

-- samples of pictures that are in the range of their bit depth
abbrev pub AreSmall : UnitFormat → Pictures → Type 0
AreSmall format pictures = (place c : ℕ) (x y : ℤ) → pictures place c x y < 2 ^ depth_of format c
