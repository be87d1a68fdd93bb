use Rattle.spec_boundary_strengths.specs.Strengths.{left_strength, top_strength}
use Rattle.spec_boundary_strengths.proofs.Sides.{strength_intra}
use Rattle.spec_boundary_strengths.proofs.Edges.{if_both}
use Rattle.spec_boundary_strengths.proofs.laws.intra_edges_are_strong.Goals as goal

pub returns-clause-left : goal.returns-clause-left
unfolding left_strength
returns-clause-left c beside items x y intra filtered edge =
    if_both _ _ _ _ _ filtered edge (strength_intra _ _ _ intra)

pub returns-clause-top : goal.returns-clause-top
unfolding top_strength
returns-clause-top c beside items x y intra filtered edge = if_both _ _ _ _ _ filtered edge (strength_intra _ _ _ intra)
