-- What the rows that a known unit reaches are reckoned from.
use Rattle.std.specs.Prelude.{ℕ, ◌≡◌}
use Rattle.plan_types.specs.declared.picture_plan.PicturePlan.{PicturePlan}
use Rattle.plan_types.specs.declared.segment_plan.SegmentPlan.{SegmentPlan}
use Rattle.ctu_motion.specs.Held.{held}
use Rattle.spec_picture_trees.specs.Places.{first_row}
use Rattle.spec_picture_trees.specs.Shapes.{picture_shape}
use Rattle.spec_known_units.specs.Known.{KnownUnit}
use Rattle.flight_windows.specs.SpecPictureMotion.{slice_motion}
use Rattle.unit_reach.specs.SpecFlights.{PlannedFlight, pictures_before}
use Rattle.unit_reach.specs.SpecFlights.{known_motion, names_before}
use Rattle.unit_reach.specs.SpecFlights.{luma_lines}
use Rattle.unit_reach.specs.declared.reach.ReachSource.{ReachSource}

-- it is that of the known unit at an address of the picture at a place of a flight, in a slice segment, whose motion is
-- derived
pub record IsSourceOf (f : PlannedFlight) (k : ℕ) (p : PicturePlan) (address : ℕ) (s : SegmentPlan) (known : KnownUnit)
    (source : ReachSource) : Type 0 where
  pub names : source.names.now ≡ names_before f k
  pub lines : source.lines ≡ luma_lines p
  pub row : source.row ≡ first_row (picture_shape p.sps p.pps) address
  pub slice : source.slice.now ≡ slice_motion p s address
  pub motion : held source.motion.now ≡ known_motion (pictures_before f k) p s address known
