-- Names of locality_laws that crates above take from here.
pub use Rattle.locality_laws.specs.Beside.{SamplesAgreeBeside, is_at_border}
pub use Rattle.locality_laws.specs.Motion.{MotionAgreesBeneath, MotionAgreesBeside}
pub use Rattle.locality_laws.specs.Needed.{AgreeAlong, AgreeByMotion, AgreeForItem, AgreeWhereNeeded, HaveSameRows}
pub use Rattle.locality_laws.specs.Needed.{IsHalved, first_needed, last_needed, luma_line}
