-- Names of plan_types that crates above take from here.
pub use Rattle.spec_known_units.specs.PlanTypes.{PicturePlan, SegmentPlan, address_of}
