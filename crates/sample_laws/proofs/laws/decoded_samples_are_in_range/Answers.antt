use Rattle.sample_laws.proofs.Filtered.{decoded_below}
use Rattle.sample_laws.proofs.laws.decoded_samples_are_in_range.Goals as goal

pub returns : goal.returns
returns c = λ buffer p decoded sps is. decoded_below buffer p sps decoded is
