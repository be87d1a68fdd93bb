-- A picture as later pictures refer to it.
use Rattle.header_types.specs.declared.sps.PictureFormat.{PictureFormat}
use Rattle.header_types.specs.SequenceParameterSets.{IsPictureFormat}
use Rattle.picture_buffer.specs.Motion.{FieldPlaces}
use Rattle.picture_buffer.specs.Planes.{PictureSamples}

-- its format, its samples and its motion
pub record HeldPicture : Type 0 where
  pub format : PictureFormat
  pub planes : PictureSamples
  pub motion : FieldPlaces

-- one of a format that may be
abbrev pub HasFormat : HeldPicture → Type 0
HasFormat p = IsPictureFormat p.format
