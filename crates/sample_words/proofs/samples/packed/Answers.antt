use Rattle.sample_words.proofs.SampleLines.{bytes_are, eight_are, four_are}
use Rattle.sample_words.proofs.samples.packed.Goals as goal

pub returns-then-deep : goal.returns-then-deep
returns-then-deep c = four_are c.args.deep c.args.samples.now c.args.k _ c.if-deep.true c.four_samples.ensures

pub returns : goal.returns
returns c = eight_are c.args.deep c.args.samples.now c.args.k _ c.if-deep.false c.eight_samples.ensures

pub eight_samples-requires-clause-depth : goal.eight_samples-requires-clause-depth
eight_samples-requires-clause-depth c = bytes_are c.args.deep c.args.samples.now c.if-deep.false c.requires.depth
