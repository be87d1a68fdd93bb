-- Names of unit_build that crates above take from here.
pub use Rattle.row_borders.specs.UnitBuild.{BuiltUnit}
