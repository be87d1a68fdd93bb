use Rattle.std.proofs.Common.{refl}
use Rattle.spec_motion.specs.Scaling.{tx, dist_scale_factor, scaled, scaled_component}
use Rattle.spec_motion.proofs.laws.vectors_over_two_pictures_are_halved.Goals as goal

pub returns-clause-even : goal.returns-clause-even
unfolding scaled dist_scale_factor tx scaled_component
returns-clause-even c = refl

pub returns-clause-odd : goal.returns-clause-odd
unfolding scaled dist_scale_factor tx scaled_component
returns-clause-odd c = refl
