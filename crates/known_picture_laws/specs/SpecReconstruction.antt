-- Names of spec_reconstruction that crates above take from here.
pub use Rattle.locality_laws.specs.SpecReconstruction.{InterUnit}
