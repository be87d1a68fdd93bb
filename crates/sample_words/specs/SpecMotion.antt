-- Names of spec_motion that crates above take from here.
pub use Rattle.spec_motion.specs.Vectors.{Known}
unfoldable pub use Rattle.spec_motion.specs.Vectors.{reference_in}
pub use Rattle.spec_motion.specs.declared.slice_motion.SliceMotion.{SliceMotion}
pub use Rattle.spec_motion.specs.declared.vectors.Motion.{Motion}
pub use Rattle.spec_motion.specs.declared.vectors.Vector.{Vector}
