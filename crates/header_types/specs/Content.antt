-- Whether fields are equal: what their derived `==` answers.
use Rattle.std.specs.Prelude.{Bool}
use Rattle.header_types.specs.declared.sps.SpsFields.{SpsFields}
use Rattle.header_types.specs.contracts.sps.SpsFieldsPartialEq.TheImpl as sets

-- whether two sequence parameter sets have the same content, up to vui_parameters_present_flag
abbrev pub same_content : SpsFields → SpsFields → Bool
same_content a b = sets.eq-value.it a b
