use Rattle.std.proofs.Common.{◌*◌, ◌≤◌, arith}
use Rattle.std.proofs.Math.Nat.{mul-le-mul}
use Rattle.sample_words.proofs.board.Layout.tree_start.Goals as goal

pub returns-clause-few : goal.returns-clause-few
returns-clause-few c =
    let column : c.args.column ≤ 511 = omega (arith, c.columns-few.ensures.value, c.columns-few.ensures.few) in
    let a : c.args.column * c.common_words-common.result ≤ 511 * 786946 =
    mul-le-mul column c.common_words-common.ensures.few in
    omega (arith, a, c.chosen.ensures.few)
