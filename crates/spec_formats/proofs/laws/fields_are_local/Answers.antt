use Rattle.spec_formats.proofs.Locality.{local-field}
use Rattle.spec_formats.proofs.laws.fields_are_local.Goals as goal

pub returns : goal.returns
returns c = local-field
