use Rattle.std.proofs.Common.{refl}
use Rattle.spec_transforms.specs.Matrices.{entry}
use Rattle.spec_transforms.specs.Transforms.{first_stage, second_stage, transformed}
use Rattle.value_laws.specs.Rows.{dc_alone, eight_by_eight, flat}
use Rattle.value_laws.proofs.rows.lone_dc_coefficient_is_rounded.Goals as goal

pub returns-clause-positive : goal.returns-clause-positive
unfolding entry first_stage second_stage transformed dc_alone eight_by_eight flat
returns-clause-positive c = refl

pub returns-clause-negative : goal.returns-clause-negative
unfolding entry first_stage second_stage transformed dc_alone eight_by_eight flat
returns-clause-negative c = refl
