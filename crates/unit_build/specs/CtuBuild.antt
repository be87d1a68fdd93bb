-- Names of ctu_build that crates above take from here.
pub use Rattle.ctu_build.specs.Held.{Cells}
unfoldable pub use Rattle.ctu_build.specs.Held.{held}
