use Rattle.spec_inter_prediction.proofs.Filters.{luma_equal, chroma_equal}
use Rattle.spec_inter_prediction.proofs.laws.filters_keep_equal_samples.Goals as goal

pub returns-clause-luma : goal.returns-clause-luma
returns-clause-luma c = luma_equal

pub returns-clause-chroma : goal.returns-clause-chroma
returns-clause-chroma c = chroma_equal
