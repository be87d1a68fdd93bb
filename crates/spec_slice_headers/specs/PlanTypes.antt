-- Names of plan_types that crates above take from here.
pub use Rattle.plan_types.specs.Segments.{AreInOrder, Rise, address_of, begins_at}
pub use Rattle.plan_types.specs.declared.between.Between.{Between}
pub use Rattle.plan_types.specs.declared.picture_plan.PicturePlan.{PicturePlan}
pub use Rattle.plan_types.specs.declared.segment_plan.SegmentPlan.{SegmentPlan}
pub use Rattle.plan_types.specs.declared.stated_hash.StatedHash.{StatedHash}
