use Rattle.spec_transforms.proofs.Entries.{cosines_are, sines_are}
use Rattle.spec_transforms.proofs.laws.matrices_are_cosines_and_sines.Goals as goal

pub returns : goal.returns
returns c = record { cosines = cosines_are; sines = sines_are }
