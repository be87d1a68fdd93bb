use Rattle.std.proofs.Common.{refl}
use Rattle.ctu_records.specs.Prediction.{part_of}
use Rattle.spec_boundary_strengths.specs.Motion.{vectors, are_apart, differ_by_two, differ, motion_strength}
use Rattle.spec_boundary_strengths.specs.Edges.{is_transform_left, is_transform_top, is_prediction_left}
use Rattle.spec_boundary_strengths.specs.Edges.{is_prediction_top}
use Rattle.spec_boundary_strengths.specs.Strengths.{coded_at, coded_around, strength, left_strength, top_strength}
use Rattle.spec_boundary_strengths.specs.Worked.{vector_into, by_one, whole_square, skipped_unit, half, two_parts}
use Rattle.spec_boundary_strengths.specs.Worked.{beside_parts}
use Rattle.spec_boundary_strengths.proofs.laws.parts_meet_with_strength_one.Goals as goal

pub returns-clause-middle : goal.returns-clause-middle
unfolding part_of vectors are_apart differ_by_two differ motion_strength is_transform_left is_transform_top
    is_prediction_left is_prediction_top coded_at coded_around strength left_strength top_strength vector_into by_one
    whole_square skipped_unit half two_parts beside_parts
returns-clause-middle c = refl

pub returns-clause-side : goal.returns-clause-side
unfolding part_of vectors are_apart differ_by_two differ motion_strength is_transform_left is_transform_top
    is_prediction_left is_prediction_top coded_at coded_around strength left_strength top_strength vector_into by_one
    whole_square skipped_unit half two_parts beside_parts
returns-clause-side c = refl

pub returns-clause-inside : goal.returns-clause-inside
unfolding part_of vectors are_apart differ_by_two differ motion_strength is_transform_left is_transform_top
    is_prediction_left is_prediction_top coded_at coded_around strength left_strength top_strength vector_into by_one
    whole_square skipped_unit half two_parts beside_parts
returns-clause-inside c = refl

pub returns-clause-top : goal.returns-clause-top
unfolding part_of vectors are_apart differ_by_two differ motion_strength is_transform_left is_transform_top
    is_prediction_left is_prediction_top coded_at coded_around strength left_strength top_strength vector_into by_one
    whole_square skipped_unit half two_parts beside_parts
returns-clause-top c = refl
