use Rattle.spec_sample_adaptive_offset.proofs.Samples.{beside_alone}
use Rattle.spec_sample_adaptive_offset.proofs.laws.samples_depend_on_what_lies_beside_them.Goals as goal

pub returns : goal.returns
returns c = beside_alone
