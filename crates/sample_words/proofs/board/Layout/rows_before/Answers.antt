use Rattle.std.proofs.Common.{◌*◌, ◌≤◌, arith}
use Rattle.std.proofs.Math.Nat.{mul-le-mul}
use Rattle.sample_words.proofs.board.Layout.rows_before.Goals as goal

pub returns-clause-few : goal.returns-clause-few
returns-clause-few c =
    let row : c.args.row ≤ 511 = omega arith in
    let a : c.args.row * c.row_words-whole.result ≤ 511 * 405275712 = mul-le-mul row c.row_words-whole.ensures.few in
    omega (arith, a)
