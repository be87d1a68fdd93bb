use Rattle.std.proofs.Common.{◌*◌, ◌≤◌, arith}
use Rattle.std.proofs.Math.Nat.{mul-le-mul}
use Rattle.picture_layout.proofs.coding_tree_unit.CodingTreeUnit.first_column.Goals as goal

pub returns-clause-small : goal.returns-clause-small
returns-clause-small c =
    let few : c.column.result ≤ 511 = omega (arith, c.column.ensures.small) in
    let all : c.side.result * c.column.result ≤ 16 * 511 = mul-le-mul c.side.ensures.small few in
    omega (arith, all)
