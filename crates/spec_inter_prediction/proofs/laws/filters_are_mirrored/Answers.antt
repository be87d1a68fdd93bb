use Rattle.spec_inter_prediction.proofs.Filters.{luma_mirrored, chroma_mirrored}
use Rattle.spec_inter_prediction.proofs.laws.filters_are_mirrored.Goals as goal

pub returns-clause-luma : goal.returns-clause-luma
returns-clause-luma c = luma_mirrored

pub returns-clause-chroma : goal.returns-clause-chroma
returns-clause-chroma c = chroma_mirrored
