use Rattle.hv_base.specs.declared.field_rules.TheConstants.{PARAMETER_SET_RULES}
use Rattle.spec_parameter_sets.proofs.Ranges.{data_in_range}
use Rattle.spec_parameter_sets.proofs.laws.scaling_lists_are_in_range.Goals as goal

pub returns : goal.returns
returns c = data_in_range PARAMETER_SET_RULES
