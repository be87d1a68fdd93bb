-- Names of locality_laws that crates above take from here.
pub use Rattle.row_trees.specs.LocalityLaws.{IsHalved}
