use Rattle.made_sample_laws.proofs.Copying.{luma, chroma, one, two}
use Rattle.made_sample_laws.proofs.laws.whole_vectors_copy.Goals as goal

pub returns : goal.returns
returns c = record { luma = luma; chroma = chroma; one = one; two = two }
