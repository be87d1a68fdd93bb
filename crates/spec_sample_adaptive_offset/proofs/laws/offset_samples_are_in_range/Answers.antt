use Rattle.spec_sample_adaptive_offset.proofs.Samples.{in_range}
use Rattle.spec_sample_adaptive_offset.proofs.laws.offset_samples_are_in_range.Goals as goal

pub returns : goal.returns
returns c = in_range
