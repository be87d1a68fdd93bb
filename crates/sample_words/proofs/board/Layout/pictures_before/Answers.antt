use Rattle.std.proofs.Common.{◌*◌, ◌≤◌, arith}
use Rattle.std.proofs.Math.Nat.{mul-le-mul}
use Rattle.sample_words.proofs.board.Layout.pictures_before.Goals as goal

pub returns-clause-few : goal.returns-clause-few
returns-clause-few c =
    let pictures : c.from.result ≤ 65536 = omega (arith, c.requires) in
    let a : c.from.result * c.picture_words-whole.result ≤ 65536 * 207501164544 =
    mul-le-mul pictures c.picture_words-whole.ensures.few in
    omega (arith, a)
