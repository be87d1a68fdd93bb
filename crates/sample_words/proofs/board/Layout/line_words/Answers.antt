use Rattle.std.proofs.Common.{arith}
use Rattle.sample_words.proofs.Bounds.{covering_most}
use Rattle.sample_words.proofs.board.Layout.line_words.Goals as goal

pub returns-clause-few : goal.returns-clause-few
returns-clause-few c =
    covering_most c.samples_a_word-count.result c.args.samples (omega (arith, c.samples_a_word-count.ensures.least))
