use Rattle.std.proofs.Common.{refl}
use Rattle.spec_boundary_strengths.specs.Motion.{vectors, are_apart, differ_by_two, differ, motion_strength}
use Rattle.spec_boundary_strengths.specs.Worked.{vector_into, by_one, by_other, by_both}
use Rattle.spec_boundary_strengths.proofs.laws.vectors_are_compared_by_picture.Goals as goal

pub returns-clause-index : goal.returns-clause-index
unfolding vectors are_apart differ_by_two differ motion_strength vector_into by_one by_other by_both
returns-clause-index c = refl

pub returns-clause-picture : goal.returns-clause-picture
unfolding vectors are_apart differ_by_two differ motion_strength vector_into by_one by_other by_both
returns-clause-picture c = refl

pub returns-clause-apart : goal.returns-clause-apart
unfolding vectors are_apart differ_by_two differ motion_strength vector_into by_one by_other by_both
returns-clause-apart c = refl

pub returns-clause-count : goal.returns-clause-count
unfolding vectors are_apart differ_by_two differ motion_strength vector_into by_one by_other by_both
returns-clause-count c = refl

pub returns-clause-crossed : goal.returns-clause-crossed
unfolding vectors are_apart differ_by_two differ motion_strength vector_into by_one by_other by_both
returns-clause-crossed c = refl

pub returns-clause-same : goal.returns-clause-same
unfolding vectors are_apart differ_by_two differ motion_strength vector_into by_one by_other by_both
returns-clause-same c = refl
