use Rattle.border_words.proofs.Words.{modes_first}
use Rattle.border_words.proofs.reading.read_segment.Goals as goal

pub read_word-word-requires-clause-inside : goal.read_word-word-requires-clause-inside
read_word-word-requires-clause-inside c =
    modes_first c.args.at.now c.args.words.now c.requires.words c.requires.phase
