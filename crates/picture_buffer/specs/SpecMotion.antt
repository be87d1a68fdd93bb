-- Names of spec_motion that crates above take from here.
unfoldable pub use Rattle.spec_motion.specs.Temporal.{bottom_right, centre, temporal_mv}
pub use Rattle.spec_motion.specs.Units.{IsPlacedItem}
unfoldable pub use Rattle.spec_motion.specs.Units.{unit_derived}
pub use Rattle.spec_motion.specs.Vectors.{Beneath, Known, no_reference}
unfoldable pub use Rattle.spec_motion.specs.Vectors.{reference_in}
pub use Rattle.spec_motion.specs.declared.collocation.Collocated.{Collocated}
pub use Rattle.spec_motion.specs.declared.collocation.CollocatedVector.{CollocatedVector}
pub use Rattle.spec_motion.specs.declared.slice_motion.SliceMotion.{SliceMotion}
pub use Rattle.spec_motion.specs.declared.vectors.Motion.{Motion}
pub use Rattle.spec_motion.specs.declared.vectors.Reference.{Reference}
pub use Rattle.spec_motion.specs.declared.vectors.Vector.{Vector}
