use Rattle.std.proofs.Common.{◌*◌, ◌≤◌, arith}
use Rattle.std.proofs.Math.Nat.{mul-le-mul}
use Rattle.sample_words.proofs.board.Layout.lines.Goals as goal

pub returns-clause-few : goal.returns-clause-few
returns-clause-few c =
    let pictures : c.from.result ≤ 65536 = omega (arith, c.sizes-sizes.ensures.there.pictures) in
    let a : c.from.result * c.rows-rows.result ≤ 65536 * 512 = mul-le-mul pictures c.rows-rows.ensures.few in
    omega (arith, a)
