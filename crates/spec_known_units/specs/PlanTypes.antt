-- Names of plan_types that crates above take from here.
pub use Rattle.spec_picture_trees.specs.PlanTypes.{PicturePlan, SegmentPlan, address_of}
