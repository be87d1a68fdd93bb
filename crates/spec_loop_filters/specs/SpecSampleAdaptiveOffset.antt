-- Names of spec_sample_adaptive_offset that crates above take from here.
pub use Rattle.spec_sample_adaptive_offset.specs.Plane.{AgreeBeside, unit_at}
unfoldable pub use Rattle.spec_sample_adaptive_offset.specs.Plane.{offset_sample}
pub use Rattle.spec_sample_adaptive_offset.specs.declared.unit.OffsetUnit.{OffsetUnit}
