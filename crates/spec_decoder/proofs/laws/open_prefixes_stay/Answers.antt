use Rattle.spec_decoder.proofs.Continuing.{of_continues}
use Rattle.spec_decoder.proofs.laws.open_prefixes_stay.Goals as goal

pub returns : goal.returns
returns c = of_continues
