use Rattle.sample_words.proofs.SampleLines.{eight_are_laid, four_are_laid}
use Rattle.sample_words.proofs.samples.unpack.Goals as goal

pub returns-then-deep : goal.returns-then-deep
returns-then-deep c =
    four_are_laid c.args.deep c.args.word c.args.samples.now c.unpack_four.new.samples c.args.k c.if-deep.true
    c.unpack_four.ensures

pub returns : goal.returns
returns c =
    eight_are_laid c.args.deep c.args.word c.args.samples.now c.unpack_eight.new.samples c.args.k c.if-deep.false
    c.unpack_eight.ensures
