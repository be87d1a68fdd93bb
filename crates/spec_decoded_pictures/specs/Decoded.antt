-- A decoded picture, by the pictures of the decoded picture buffer before it: its samples are built from what was read
-- and from the pictures that it refers to, and then go through its loop filters (8.1.3, 8.7).
use Rattle.std.specs.Prelude.{ℕ, List, [], Option, Some, None, Result, Ok, Err, slice_get, if◌then◌else◌}
use Rattle.std.specs.List.{fold}
use Rattle.spec_picture_build.specs.PlanTypes.{SegmentPlan}
use Rattle.spec_picture_build.specs.PlanTypes.{PicturePlan}
use Rattle.spec_picture_build.specs.SpecPictureTrees.{Halt, PictureBroken, Progress, TreeUnit, picture_read}
use Rattle.spec_picture_build.specs.SpecPictureTrees.{picture_shape}
use Rattle.spec_picture_build.specs.SpecPictureMotion.{unit_added as motion_added}
use Rattle.spec_picture_build.specs.SpecPictureMotion.{Motions, no_motions}
use Rattle.spec_picture_filters.specs.Data.{FilterData, no_data}
use Rattle.spec_picture_filters.specs.Filtered.{filtered}
use Rattle.spec_picture_filters.specs.Units.{unit_added as filters_added}
use Rattle.spec_picture_build.specs.Border.{Samples, has_sample, no_samples}
use Rattle.spec_picture_build.specs.Built.{BuiltPicture, samples_added, unit_inter}
use Rattle.spec_picture_build.specs.References.{DecodedPicture, motions_of}

-- what the coding tree units of a picture that are read so far make of it: its samples before its loop filters, its
-- motion, and what its loop filters need
pub record DecodedUnits : Type 0 where
  pub samples : Samples
  pub motions : Motions
  pub filters : FilterData

-- before the first unit
abbrev pub no_units : DecodedUnits
no_units = record { samples = no_samples; motions = no_motions; filters = no_data }

-- behind a unit of a slice segment. Its motion is derived; by that its samples are built, from those before the loop
-- filters alone where it is predicted from the picture itself; and the filters take what was read of it, and its motion
unfoldable pub unit_decoded : List DecodedPicture → PicturePlan → SegmentPlan → TreeUnit → DecodedUnits → DecodedUnits
unit_decoded buffer p s unit before =
    let motions : Motions = motion_added (motions_of buffer) p s unit before.motions in
    record {
      samples = samples_added (unit_inter buffer p s unit before.motions) p s unit before.samples;
      motions = motions;
      filters = filters_added p s unit motions before.filters;
    }

abbrev pub decoded_in : List DecodedPicture → PicturePlan → Option SegmentPlan → TreeUnit → DecodedUnits → DecodedUnits
decoded_in buffer p None unit before = before
decoded_in buffer p (Some s) unit before = unit_decoded buffer p s unit before

-- behind the next unit, by the number of its segment
abbrev pub with_unit : List DecodedPicture → PicturePlan → DecodedUnits → TreeUnit → DecodedUnits
with_unit buffer p before unit = decoded_in buffer p (slice_get p.segments unit.segment) unit before

-- behind all these units, which were read one after the other
unfoldable pub units_folded : List DecodedPicture → PicturePlan → List TreeUnit → DecodedUnits
units_folded buffer p units = fold (with_unit buffer p) no_units units

-- the same by two folds: the picture that is built, and what its loop filters need
abbrev pub joined : BuiltPicture → FilterData → DecodedUnits
joined built gathered = record { samples = built.samples; motions = built.motions; filters = gathered }

-- the samples of a picture behind its loop filters; 0 outside the picture
unfoldable pub samples_filtered : PicturePlan → FilterData → Samples → Samples
samples_filtered p gathered samples c x y =
    if has_sample (picture_shape p.sps p.pps) c x y then filtered p gathered samples c x y else 0

-- a picture by what all its units make of it: the loop filters go over the samples once
unfoldable pub decoded_by : PicturePlan → DecodedUnits → DecodedPicture
decoded_by p units = record {
  format = p.sps.format;
  samples = samples_filtered p units.filters units.samples;
  motions = units.motions;
}

-- a picture by its units
abbrev pub units_decoded : List DecodedPicture → PicturePlan → List TreeUnit → DecodedPicture
units_decoded buffer p units = decoded_by p (units_folded buffer p units)

-- by how reading it ended
abbrev pub reading_decoded : List DecodedPicture → PicturePlan → Result Progress Halt
    → Result DecodedPicture PictureBroken
reading_decoded buffer p (Ok progress) = Ok (units_decoded buffer p progress.given)
reading_decoded buffer p (Err halt) = Err halt.broken

-- a picture by the buffer before it, or the first rule that its data break
unfoldable pub picture_decoded : List DecodedPicture → PicturePlan → Result DecodedPicture PictureBroken
picture_decoded buffer p = reading_decoded buffer p (picture_read p [])
