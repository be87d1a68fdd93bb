-- A picture while it is built, and how building ends.
use Rattle.std.specs.Prelude.{◌≡◌, List, Result, Ok, Err}
use Rattle.std.specs.List.{All}
use Rattle.plan_types.specs.declared.segment_plan.SegmentPlan.{SegmentPlan}
use Rattle.plan_types.specs.declared.picture_plan.PicturePlan.{PicturePlan}
use Rattle.picture_trees.specs.SpecPictureTrees.{TreeUnit, PictureBroken}
use Rattle.spec_reconstruction.specs.Sound.{AreSound}
use Rattle.spec_picture_build.specs.Built.{BuiltPicture, units_built}
use Rattle.sample_laws.specs.SpecDecodedPictures.{DecodedUnits, joined}
use Rattle.unit_build.specs.SpecPictureFilters.{Behind, units_behind}
use Rattle.spec_picture_build.specs.Format.{unit_format}
use Rattle.spec_picture_build.specs.References.{DecodedPicture, motions_of as motions_at}
use Rattle.picture_buffer.specs.Motion.{FieldPlaces, motions_of}
use Rattle.unit_build.specs.PictureFilters.{Filtering, data_of}
use Rattle.picture_buffer.specs.Pictures.{HeldPicture}
use Rattle.picture_buffer.specs.Planes.{PictureSamples, samples_of}
use Rattle.picture_build.specs.Pictures.{decoded_of}
use Rattle.picture_trees.specs.declared.trees.ReadError.{ReadError}
use Rattle.picture_trees.specs.declared.trees.ReadError.TheVariants as error

-- a planned picture, and its samples, its motion and what its loop filters need so far
pub record Building : Type 0 where
  pub plan : PicturePlan
  pub planes : PictureSamples
  pub motion : FieldPlaces
  pub filters : Filtering

-- the picture so far
abbrev pub built_by : Building → BuiltPicture
built_by building = record { samples = samples_of building.planes; motions = motions_of building.motion }

-- all that its units so far make of it
abbrev pub units_by : Building → DecodedUnits
units_by building = joined (built_by building) (data_of building.filters)

-- its motion, and what its loop filters need
abbrev pub behind_by : Building → Behind
behind_by building = record { motions = motions_of building.motion; gathered = data_of building.filters }

-- the items of a unit are in the ranges for which samples are told
abbrev pub IsSoundUnit : PicturePlan → TreeUnit → Type 0
IsSoundUnit p unit = (s : SegmentPlan) → AreSound (unit_format p.sps p.pps s.header.slice) unit.read.items

-- a picture that is built is the one of this plan, and, where all these units are sound, has their samples, their
-- motion and what the loop filters need of them
pub record IsBuilt (buffer : List DecodedPicture) (building : Building) (p : PicturePlan)
    (given : List TreeUnit) : Type 0 where
  pub plan : building.plan ≡ p
  pub picture : All (IsSoundUnit p) given → built_by building ≡ units_built buffer p given
  pub behind : All (IsSoundUnit p) given → behind_by building ≡ units_behind (motions_at buffer) p given

-- a call answered the picture that a plan gives, or the rule that its data break; where there was no memory nothing is
-- said
abbrev pub BuildsPicture : Result HeldPicture ReadError → Result DecodedPicture PictureBroken → Type 0
BuildsPicture (Ok p) decoded = decoded ≡ Ok (decoded_of p)
BuildsPicture (Err error.Memory) decoded = Unit {0}
BuildsPicture (Err (error.Broken breach nal ctu)) decoded =
    decoded ≡ Err (record { breach = breach; nal = nal; ctu = ctu })
