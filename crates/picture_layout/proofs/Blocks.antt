-- The places of a unit, as far as the picture has them.
use Rattle.std.proofs.Common.{◌≡◌, ℕ, ◌+◌, ◌-◌, ◌&&◌, min, nat_le, nat_lt, arith}
use Rattle.std.proofs.lemmas.Bool.Decides.{nat_tests}
use Rattle.spec_picture_trees.specs.Places.{is_of_unit, unit_places}
use Rattle.picture_layout.specs.Blocks.{IsBlock}
use Rattle.picture_layout.specs.declared.block.PlaceBlock.{PlaceBlock}
use Rattle.picture_layout.specs.declared.coding_tree_unit.CodingTreeUnit.{CodingTreeUnit}

-- so many places from one on, as far as there are any
within : (n whole x i count : ℕ) → count ≡ min n (whole - x)
    → (nat_le x i && nat_lt i (x + count)) ≡ ((nat_le x i && nat_lt i (x + n)) && nat_lt i whole)
within n whole x i count e = grind (arith, nat_tests)

-- a block's places are those of the unit
pub of_block : (unit : CodingTreeUnit) (block : PlaceBlock) (i j : ℕ) → IsBlock unit block
    → ((nat_le block.y j && nat_lt j (block.y + block.rows))
    && (nat_le block.x i && nat_lt i (block.x + block.columns)))
    ≡ is_of_unit unit.layout unit.address i j
of_block unit block i j is =
    let columns = within (unit_places unit.layout) unit.layout.across block.x i block.columns is.columns in
    let rows = within (unit_places unit.layout) unit.layout.down block.y j block.rows is.rows in
    let x = is.x in
    let y = is.y in
    grind (arith, nat_tests)
