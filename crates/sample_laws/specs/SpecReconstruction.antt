-- Names of spec_reconstruction that crates above take from here.
pub use Rattle.unit_laws.specs.SpecReconstruction.{IsMotion, IsSound, IsVector, UnitFormat}
unfoldable pub use Rattle.unit_laws.specs.SpecReconstruction.{ArePulses}
