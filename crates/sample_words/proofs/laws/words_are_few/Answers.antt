use Rattle.sample_words.proofs.Bounds.{few_words}
use Rattle.sample_words.proofs.laws.words_are_few.Goals as goal

pub returns : goal.returns
returns c = few_words
