-- Names of unit_tree_laws that crates above take from here.
pub use Rattle.unit_tree_laws.specs.Agreement.{begins_slice}
