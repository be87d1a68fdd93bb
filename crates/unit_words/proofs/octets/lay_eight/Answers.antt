use Rattle.unit_words.proofs.WordBytes.{octets_laid}
use Rattle.unit_words.proofs.octets.lay_eight.Goals as goal

pub returns-clause-value : goal.returns-clause-value
returns-clause-value c =
    octets_laid c.args.first c.args.word c.args.samples.now c.samples_of.result c.requires c.samples_of.ensures.long
    c.samples_of.ensures.value
