use Rattle.spec_inter_prediction.proofs.Filters.{sample_same, block_same}
use Rattle.spec_inter_prediction.proofs.laws.luma_samples_depend_on_their_lines.Goals as goal

pub returns-clause-sample : goal.returns-clause-sample
returns-clause-sample c = sample_same

pub returns-clause-block : goal.returns-clause-block
returns-clause-block c = block_same
