use Rattle.std.proofs.Common.{refl}
use Rattle.spec_slice_data.specs.Quantization.{chroma_qp_of_index}
use Rattle.spec_reconstruction.specs.Parameters.{chroma_parameter}
use Rattle.spec_reconstruction.proofs.laws.chroma_parameters_are_held.Goals as goal

pub returns-clause-low : goal.returns-clause-low
unfolding chroma_parameter chroma_qp_of_index
returns-clause-low c = refl

pub returns-clause-tabled : goal.returns-clause-tabled
unfolding chroma_parameter chroma_qp_of_index
returns-clause-tabled c = refl

pub returns-clause-high : goal.returns-clause-high
unfolding chroma_parameter chroma_qp_of_index
returns-clause-high c = refl

pub returns-clause-negative : goal.returns-clause-negative
unfolding chroma_parameter chroma_qp_of_index
returns-clause-negative c = refl

pub returns-clause-lowest : goal.returns-clause-lowest
unfolding chroma_parameter chroma_qp_of_index
returns-clause-lowest c = refl
