-- Names of plan_types that crates above take from here.
pub use Rattle.plan_types.specs.declared.picture_plan.PicturePlan.{PicturePlan}
pub use Rattle.plan_types.specs.declared.segment_plan.SegmentPlan.{SegmentPlan}
