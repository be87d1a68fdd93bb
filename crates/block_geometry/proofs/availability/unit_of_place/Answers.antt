use Rattle.std.proofs.Common.{◌+◌, ◌-◌, ◌*◌, ◌/◌, ◌≤◌, arith}
use Rattle.std.proofs.Math.Nat.{div-le_self, mul-le-mul}
use Rattle.block_geometry.proofs.availability.unit_of_place.Goals as goal

pub returns-clause-small : goal.returns-clause-small
returns-clause-small c =
    let side = c.side_of-side.result in
    let width = div-le_self (c.args.area.now.across + (side - 1)) side in
    let row = div-le_self c.args.y side in
    let wide : (c.args.area.now.across + (side - 1)) / side ≤ 2064 =
    omega (arith, width, c.requires.across, c.side_of-side.ensures.small) in
    let low : c.args.y / side ≤ 2048 = omega (arith, row, c.requires.y) in
    let before : (c.args.area.now.across + (side - 1)) / side * (c.args.y / side) ≤ 2064 * 2048 = mul-le-mul wide low in
    omega (arith, before, div-le_self c.args.x side, c.requires.x)
