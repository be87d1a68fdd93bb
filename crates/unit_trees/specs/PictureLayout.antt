-- Names of picture_layout that crates above take from here.
pub use Rattle.picture_layout.specs.Shape.{IsShape}
pub use Rattle.picture_layout.specs.declared.coding_tree_unit.CodingTreeUnit.{CodingTreeUnit}
