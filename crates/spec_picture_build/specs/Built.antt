-- The samples of a picture before its loop filters, and its motion, by what was read of its coding tree units and the
-- pictures of the decoded picture buffer (8.4.4.1, 8.5.3, 8.6.5).
use Rattle.std.specs.Prelude.{ℕ, ◌+◌, ◌-◌, ◌==◌, ◌&&◌, Bool, List, [], Option, Some, None, Result, Ok, Err, slice_get}
use Rattle.std.specs.Prelude.{if◌then◌else◌}
use Rattle.std.specs.Option.{unwrap_or}
use Rattle.std.specs.List.{fold}
use Rattle.spec_picture_motion.specs.PlanTypes.{SegmentPlan}
use Rattle.spec_picture_motion.specs.PlanTypes.{PicturePlan}
use Rattle.spec_reconstruction.specs.SpecSliceData.{PictureShape}
use Rattle.spec_picture_motion.specs.SpecPictureTrees.{TreeUnit, PictureBroken, Progress, Halt, picture_read}
use Rattle.spec_picture_motion.specs.PlanTypes.{address_of}
use Rattle.spec_picture_motion.specs.SpecPictureTrees.{picture_shape, slice_start}
use Rattle.spec_picture_motion.specs.Derived.{known_of_unit}
use Rattle.spec_picture_motion.specs.Derived as motion
use Rattle.spec_picture_motion.specs.SpecPictureTrees.{first_column, first_row, unit_at}
use Rattle.spec_picture_motion.specs.Field.{Motions, no_motions}
use Rattle.spec_picture_motion.specs.Slices.{slice_motion}
use Rattle.spec_reconstruction.specs.Inter.{InterUnit}
use Rattle.spec_reconstruction.specs.Known.{Known}
use Rattle.spec_reconstruction.specs.Unit.{unit_built}
use Rattle.spec_picture_build.specs.Border.{Samples, has_sample, known_beside, no_samples, unit_column, unit_line}
use Rattle.spec_picture_build.specs.Border.{unit_side}
use Rattle.spec_picture_build.specs.Format.{unit_format}
use Rattle.spec_picture_build.specs.References.{DecodedPicture, motions_of, pictures_of}
use Rattle.spec_picture_build.specs.Weights.{slice_weighting}

-- a picture while it is built
pub record BuiltPicture : Type 0 where
  pub samples : Samples
  pub motions : Motions

-- nothing is built
abbrev pub no_picture : BuiltPicture
no_picture = record { samples = no_samples; motions = no_motions }

-- what the inter prediction of a unit of a slice segment depends on, by the motion of the picture before it
unfoldable pub unit_inter : List DecodedPicture → PicturePlan → SegmentPlan → TreeUnit → Motions → InterUnit
unit_inter buffer p s unit motions = record {
  motion = known_of_unit (motions_of buffer) p s unit motions;
  slice = slice_motion p s unit.ctu;
  weighting = slice_weighting s.header.slice.inter;
  pictures = pictures_of p.sps.format buffer;
  column = first_column (picture_shape p.sps p.pps) unit.ctu;
  row = first_row (picture_shape p.sps p.pps) unit.ctu;
}

-- whether a sample is one of the unit at an address
abbrev pub is_of_unit : PictureShape → ℕ → ℕ → ℕ → ℕ → Bool
is_of_unit picture address c x y = has_sample picture c x y && unit_at picture (unit_side picture c) x y == address

-- the samples of the unit at an address, by what is known of it, over those of the picture
unfoldable pub unit_laid : PictureShape → ℕ → Known → Samples → Samples
unit_laid picture address known samples c x y =
    if is_of_unit picture address c x y
    then unwrap_or (known c (x - unit_column picture c address + 1) (y - unit_line picture c address + 1)) 0
    else samples c x y

-- the samples behind a unit of a slice segment: it is built from what is known beside it
unfoldable pub samples_added : InterUnit → PicturePlan → SegmentPlan → TreeUnit → Samples → Samples
samples_added inter p s unit samples =
    let picture = picture_shape p.sps p.pps in
    unit_laid picture unit.ctu
    (unit_built (unit_format p.sps p.pps s.header.slice) inter unit.read.items
    (known_beside picture (address_of (slice_start p s)) unit.ctu samples))
    samples

-- the picture behind a unit of a slice segment
unfoldable pub unit_added : List DecodedPicture → PicturePlan → SegmentPlan → TreeUnit → BuiltPicture → BuiltPicture
unit_added buffer p s unit built = record {
  samples = samples_added (unit_inter buffer p s unit built.motions) p s unit built.samples;
  motions = motion.unit_added (motions_of buffer) p s unit built.motions;
}

-- a unit more of a segment, where the plan has it
abbrev pub added_in : List DecodedPicture → PicturePlan → Option SegmentPlan → TreeUnit → BuiltPicture → BuiltPicture
added_in buffer p None unit built = built
added_in buffer p (Some s) unit built = unit_added buffer p s unit built

-- behind the next unit, by the number of its segment
abbrev pub with_unit : List DecodedPicture → PicturePlan → BuiltPicture → TreeUnit → BuiltPicture
with_unit buffer p built unit = added_in buffer p (slice_get p.segments unit.segment) unit built

-- the picture behind these units, which were read one after the other
unfoldable pub units_built : List DecodedPicture → PicturePlan → List TreeUnit → BuiltPicture
units_built buffer p units = fold (with_unit buffer p) no_picture units

-- the picture of the units that were read, or what its data break
abbrev pub built_of : List DecodedPicture → PicturePlan → Result Progress Halt → Result BuiltPicture PictureBroken
built_of buffer p (Ok progress) = Ok (units_built buffer p progress.given)
built_of buffer p (Err halt) = Err halt.broken

-- a picture by the buffer before it, or the first rule that its data break
unfoldable pub picture_built : List DecodedPicture → PicturePlan → Result BuiltPicture PictureBroken
picture_built buffer p = built_of buffer p (picture_read p [])
