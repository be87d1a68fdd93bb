use Rattle.std.proofs.Common.{refl}
use Rattle.spec_slice_data.specs.Quantization.{chroma_qp_of_index}
use Rattle.value_laws.specs.Tables.{printed_chroma_parameters}
use Rattle.value_laws.proofs.tables.chroma_parameters_are_as_printed.Goals as goal

pub returns : goal.returns
unfolding chroma_qp_of_index printed_chroma_parameters
returns c = refl
