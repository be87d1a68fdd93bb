use Rattle.spec_sample_adaptive_offset.proofs.Samples.{zero_stays}
use Rattle.spec_sample_adaptive_offset.proofs.laws.samples_without_offset_stay.Goals as goal

pub returns : goal.returns
returns c = zero_stays
