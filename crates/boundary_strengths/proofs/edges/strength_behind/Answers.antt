use Rattle.boundary_strengths.proofs.EdgeSides.{without_motion}
use Rattle.boundary_strengths.proofs.edges.strength_behind.Goals as goal

pub returns-in-None : goal.returns-in-None
returns-in-None g c = rw c.in-None.is (without_motion _ _)
