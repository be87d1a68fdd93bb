use Rattle.std.proofs.Common.{refl}
use Rattle.spec_slice_data.specs.Quantization.{chroma_qp_of_index}
use Rattle.spec_reconstruction.specs.Parameters.{chroma_parameter}
use Rattle.value_laws.proofs.rows.chroma_follows_luma_up_to_its_table.Goals as goal

pub returns-clause-low : goal.returns-clause-low
unfolding chroma_qp_of_index chroma_parameter
returns-clause-low c = refl

pub returns-clause-middle : goal.returns-clause-middle
unfolding chroma_qp_of_index chroma_parameter
returns-clause-middle c = refl

pub returns-clause-high : goal.returns-clause-high
unfolding chroma_qp_of_index chroma_parameter
returns-clause-high c = refl
