use Rattle.std.proofs.Common.{◌*◌, ◌≤◌, arith}
use Rattle.std.proofs.Math.Nat.{mul-le-mul}
use Rattle.sample_words.proofs.board.Layout.rows_above.Goals as goal

pub returns-clause-few : goal.returns-clause-few
returns-clause-few c =
    let picture : c.from.result ≤ 65536 = omega (arith, c.requires.picture, c.sizes-few.ensures.in_range.pictures) in
    let row : c.from-2.result ≤ 511 =
    omega (arith, c.requires.row, c.rows-rows.ensures.value, c.rows-rows.ensures.few) in
    let a : c.from.result * c.rows-rows.result ≤ 65536 * 512 = mul-le-mul picture c.rows-rows.ensures.few in
    omega (arith, a)
