use Rattle.spec_formats.specs.Format.{One}
use Rattle.spec_formats.specs.Fields.{field_at}
use Rattle.spec_formats.proofs.Agreement.{agree, again}
use Rattle.spec_formats.proofs.laws.fields_are_spelled.Goals as goal

pub returns : goal.returns
returns c = record {
  read_as_spelled = λ rules field. agree (field_at rules) (One field);
  read_again = λ rules field x words s t writes has. again (field_at rules) (One field) x words s t writes has;
}
