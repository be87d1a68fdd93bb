-- Names of plan_types that crates above take from here.
pub use Rattle.spec_slice_headers.specs.PlanTypes.{AreInOrder, Between, PicturePlan, Rise, SegmentPlan, address_of}
pub use Rattle.spec_slice_headers.specs.PlanTypes.{begins_at}
