use Rattle.spec_boundary_strengths.proofs.Sides.{strength_sym}
use Rattle.spec_boundary_strengths.proofs.laws.strengths_are_symmetric.Goals as goal

pub returns : goal.returns
returns c = strength_sym
