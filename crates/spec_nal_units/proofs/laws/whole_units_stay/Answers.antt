use Rattle.spec_nal_units.proofs.Going.{told_of-go}
use Rattle.spec_nal_units.proofs.laws.whole_units_stay.Goals as goal

pub returns : goal.returns
returns c = told_of-go
