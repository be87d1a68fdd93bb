use Rattle.sample_words.proofs.OffsetWords.{sao_found}
use Rattle.sample_words.proofs.laws.offsets_are_unpacked.Goals as goal

pub returns : goal.returns
returns c = sao_found
