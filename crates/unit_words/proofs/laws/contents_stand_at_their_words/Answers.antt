use Rattle.unit_words.proofs.Standing.{words_stand}
use Rattle.unit_words.proofs.laws.contents_stand_at_their_words.Goals as goal

pub returns : goal.returns
returns c = words_stand
