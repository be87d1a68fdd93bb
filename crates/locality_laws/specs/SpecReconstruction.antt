-- Names of spec_reconstruction that crates above take from here.
pub use Rattle.spec_picture_build.specs.SpecReconstruction.{InterUnit}
