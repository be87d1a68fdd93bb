use Rattle.spec_sample_adaptive_offset.proofs.Samples.{unchanged}
use Rattle.spec_sample_adaptive_offset.proofs.laws.unchanged_by_no_offset.Goals as goal

pub returns : goal.returns
returns c = unchanged
