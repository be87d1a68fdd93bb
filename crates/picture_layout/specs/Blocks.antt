-- The places of a coding tree unit that its picture has.
use Rattle.std.specs.Prelude.{◌≡◌, ◌-◌, ◌<◌, ◌≤◌, min}
use Rattle.spec_picture_trees.specs.Places.{first_column, first_row, unit_places}
use Rattle.picture_layout.specs.declared.block.PlaceBlock.{PlaceBlock}
use Rattle.picture_layout.specs.declared.coding_tree_unit.CodingTreeUnit.{CodingTreeUnit}

pub record IsBlock (unit : CodingTreeUnit) (block : PlaceBlock) : Type 0 where
  pub x : block.x ≡ first_column unit.layout unit.address
  pub y : block.y ≡ first_row unit.layout unit.address
  pub columns : block.columns ≡ min (unit_places unit.layout) (unit.layout.across - block.x)
  pub rows : block.rows ≡ min (unit_places unit.layout) (unit.layout.down - block.y)

-- so that no sum of its places is too great
pub record IsSmall (block : PlaceBlock) : Type 0 where
  pub x : block.x < 8192
  pub y : block.y ≤ 68719476720
  pub columns : block.columns ≤ 16
  pub rows : block.rows ≤ 16
