-- Decoded pictures, and their samples as later pictures refer to them (8.5.3.3.3).
use Rattle.std.specs.Prelude.{ℕ, ◌+◌, ◌-◌, ◌/◌, ◌^◌, ◌==◌, ℤ, min, List, slice_get, Option, Some, None, if◌then◌else◌}
use Rattle.spec_reconstruction.specs.HeaderTypes.{PictureFormat}
use Rattle.spec_reconstruction.specs.SpecInterPrediction.{clamped}
use Rattle.spec_picture_motion.specs.Derived.{References}
use Rattle.spec_picture_motion.specs.Field.{Motions, no_motions}
use Rattle.spec_reconstruction.specs.Inter.{Pictures}
use Rattle.spec_picture_build.specs.Border.{Samples}

-- a decoded picture, as the decoded picture buffer has it
pub record DecodedPicture : Type 0 where
  pub format : PictureFormat
  pub samples : Samples
  pub motions : Motions

-- the sides of a picture in samples of a component
abbrev pub format_width : PictureFormat → ℕ → ℕ
format_width format c = if c == 0 then format.pic_width_in_luma_samples else format.pic_width_in_luma_samples / 2

-- the lines of a component
abbrev pub format_height : PictureFormat → ℕ → ℕ
format_height format c = if c == 0 then format.pic_height_in_luma_samples else format.pic_height_in_luma_samples / 2

-- the greatest sample of a component
abbrev pub greatest_sample : PictureFormat → ℕ → ℕ
greatest_sample format c =
    2 ^ (if c == 0 then 8 + format.bit_depth_luma_minus8 else 8 + format.bit_depth_chroma_minus8) - 1

-- the sample of a picture at a column and a line, or the nearest one inside. It is held to the bit depth of pictures of
-- a format, that of the picture that refers to it, which no sample of a picture of this depth exceeds; where there is
-- no picture it is 0
unfoldable pub reference_sample : PictureFormat → Option DecodedPicture → ℕ → ℤ → ℤ → ℕ
reference_sample format None c x y = 0
reference_sample format (Some p) c x y =
    min (p.samples c (clamped x (format_width p.format c)) (clamped y (format_height p.format c)))
    (greatest_sample format c)

-- the samples of the pictures of a buffer, by their places, for a picture of a format
abbrev pub pictures_of : PictureFormat → List DecodedPicture → Pictures
pictures_of format buffer place c x y = reference_sample format (slice_get buffer place) c x y

-- their motion
abbrev pub motions_in : Option DecodedPicture → Motions
motions_in None = no_motions
motions_in (Some p) = p.motions

-- the motion of the pictures of the buffer, by place
abbrev pub motions_of : List DecodedPicture → References
motions_of buffer place = motions_in (slice_get buffer place)
