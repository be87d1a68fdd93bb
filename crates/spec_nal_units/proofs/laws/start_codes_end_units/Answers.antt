use Rattle.spec_nal_units.proofs.Closing.{told_of-closed}
use Rattle.spec_nal_units.proofs.laws.start_codes_end_units.Goals as goal

pub returns : goal.returns
returns c = told_of-closed
