use Rattle.hv_base.specs.declared.field_rules.TheConstants.{PARAMETER_SET_RULES}
use Rattle.spec_slice_headers.specs.SpecParameterSets.{picture_parameter_set}
use Rattle.spec_slice_headers.specs.SpecParameterSets.{sequence_parameter_set}
use Rattle.spec_written_headers.proofs.Replay.{read_back}
use Rattle.spec_written_headers.proofs.laws.parameter_sets_read_back.Goals as goal

pub returns : goal.returns
returns c = record {
  sequence = read_back PARAMETER_SET_RULES sequence_parameter_set;
  picture =
      read_back PARAMETER_SET_RULES picture_parameter_set;
}
