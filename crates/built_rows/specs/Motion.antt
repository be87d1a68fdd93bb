-- The derived motion of a coding tree unit that was read.
use Rattle.std.specs.Prelude.{◌≡◌, Some, slice_get}
use Rattle.plan_types.specs.declared.segment_plan.SegmentPlan.{SegmentPlan}
use Rattle.ctu_records.specs.Tree.{Ctu}
use Rattle.ctu_motion.specs.Held.{held}
use Rattle.spec_known_units.specs.Known.{KnownUnit, units_known}
use Rattle.spec_picture_motion.specs.Slices.{slice_motion}
use Rattle.spec_flights.specs.Pictures.{pictures_before}
use Rattle.spec_flights.specs.References.{known_motion}
use Rattle.border_words.specs.UnitBuild.{BuiltUnit}
use Rattle.line_words.specs.Places.{UnitAt}
use Rattle.border_words.specs.FlightFacts.{FlightFacts}
use Rattle.border_words.specs.FlightFacts.{flight_in}
use Rattle.row_waits.specs.declared.picture_view.PictureView.{PictureView}
use Rattle.row_waits.specs.Pictures.{address_in}

-- it is that of a known unit of a segment, as the picture has it, with the pictures that its vectors point to
pub record HasMotion (facts : FlightFacts) (picture : PictureView) (at : UnitAt) (ctu : Ctu) (built : BuiltUnit)
    : Type 0 where
  pub known : KnownUnit
  pub is : units_known picture.plan.now (address_in picture.plan.now at) ≡ Some known
  pub read : ctu ≡ known.read
  pub segment : SegmentPlan
  pub has : slice_get picture.plan.now.segments known.segment ≡ Some segment
  pub slice : built.slice ≡ slice_motion picture.plan.now segment (address_in picture.plan.now at)
  pub motion : held built.motion
      ≡ known_motion (pictures_before (flight_in facts) picture.place) picture.plan.now segment
      (address_in picture.plan.now at) known
