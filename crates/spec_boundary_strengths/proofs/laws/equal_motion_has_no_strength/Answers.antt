use Rattle.spec_boundary_strengths.specs.Strengths.{left_strength, top_strength}
use Rattle.spec_boundary_strengths.proofs.Sides.{strength_self}
use Rattle.spec_boundary_strengths.proofs.Edges.{none_either, none_coded}
use Rattle.spec_boundary_strengths.proofs.laws.equal_motion_has_no_strength.Goals as goal

pub returns-clause-left : goal.returns-clause-left
unfolding left_strength
returns-clause-left c beside items x y motion p q none_p none_q =
    none_either _ _ (strength_self _ _ _ motion (none_coded _ _ _ none_p none_q) p q)

pub returns-clause-top : goal.returns-clause-top
unfolding top_strength
returns-clause-top c beside items x y motion p q none_p none_q =
    none_either _ _ (strength_self _ _ _ motion (none_coded _ _ _ none_p none_q) p q)
