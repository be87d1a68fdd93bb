use Rattle.sample_words.specs.Sizes.{samples_a_word}
use Rattle.sample_words.specs.Values.{sample_bits}
use Rattle.sample_words.proofs.Fields.{lane_found}
use Rattle.sample_words.proofs.laws.samples_are_unpacked.Goals as goal

pub returns : goal.returns
returns c = λ s f j fits below. lane_found (sample_bits s) (samples_a_word s) f j fits below
