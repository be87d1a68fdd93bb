use Rattle.std.proofs.Common.{◌*◌, ◌/◌, ◌≤◌, arith}
use Rattle.std.proofs.Math.Nat.{mul-le-mul}
use Rattle.sample_words.proofs.board.Layout.common_words.Goals as goal

pub returns-clause-few : goal.returns-clause-few
returns-clause-few c =
    let across : c.args.width / 4 ≤ 16 = omega arith in
    let down : c.args.height / 4 ≤ 16 = omega arith in
    let a : c.args.width / 4 * (c.args.height / 4) ≤ 16 * 16 = mul-le-mul across down in
    omega (arith, a, c.sample_words-samples.ensures.few)
