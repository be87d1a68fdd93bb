use Rattle.made_decoding_laws.proofs.Ranges.{are_made}
use Rattle.made_decoding_laws.proofs.laws.made_samples_are_bytes.Goals as goal

pub returns : goal.returns
returns c = are_made
