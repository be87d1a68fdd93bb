use Rattle.hv_base.specs.declared.field_rules.TheConstants.{PARAMETER_SET_RULES}
use Rattle.spec_reference_pictures.proofs.SpecFormatsLemmas.{local-read}
use Rattle.spec_parameter_sets.specs.PictureParameterSet.{picture_parameter_set}
use Rattle.spec_parameter_sets.specs.Scaling.{scaling_list_data}
use Rattle.spec_parameter_sets.specs.SequenceParameterSet.{sequence_parameter_set}
use Rattle.spec_parameter_sets.proofs.laws.parameter_sets_are_local.Goals as goal

pub returns : goal.returns
returns c = record {
  sequence = local-read PARAMETER_SET_RULES sequence_parameter_set;
  picture = local-read PARAMETER_SET_RULES picture_parameter_set;
  scaling = local-read PARAMETER_SET_RULES scaling_list_data;
}
