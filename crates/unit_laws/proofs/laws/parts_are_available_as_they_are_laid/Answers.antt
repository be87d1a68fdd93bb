use Rattle.unit_laws.proofs.Parts.{laid_before}
use Rattle.unit_laws.proofs.laws.parts_are_available_as_they_are_laid.Goals as goal

pub returns : goal.returns
returns c = laid_before
