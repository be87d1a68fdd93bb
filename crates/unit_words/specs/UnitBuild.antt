-- Names of unit_build that crates above take from here.
pub use Rattle.unit_build.specs.declared.built.BuiltUnit.{BuiltUnit}
