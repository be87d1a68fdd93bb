use Rattle.std.proofs.Common.{false, sym, ◌∙◌}
use Rattle.ctu_records.specs.Places.{by_place}
use Rattle.spec_boundary_strengths.specs.Strengths.{left_strength, top_strength}
use Rattle.boundary_strengths.proofs.EdgeSides.{none_marked, not_marked}
use Rattle.boundary_strengths.proofs.places.place_strengths.Goals as goal

pub returns-else-is_at_edge-clause-left : goal.returns-else-is_at_edge-clause-left
unfolding left_strength
returns-else-is_at_edge-clause-left g c pcm_disabled items marked =
    let x = c.args.x in
    let y = c.args.y in
    let marks = c.args.marks.now in
    let none = none_marked (by_place false marks.transform_left x y) (by_place false marks.prediction_left x y)
    (by_place false marks.transform_top x y) (by_place false marks.prediction_top x y)
    (sym c.is_at_edge.ensures ∙ c.if-is_at_edge.false) in
    not_marked _ _ _ _ _ _ (marked.transform_left x y c.requires.x c.requires.y)
    (marked.prediction_left x y c.requires.x c.requires.y) none.0 none.1.0

pub returns-else-is_at_edge-clause-top : goal.returns-else-is_at_edge-clause-top
unfolding top_strength
returns-else-is_at_edge-clause-top g c pcm_disabled items marked =
    let x = c.args.x in
    let y = c.args.y in
    let marks = c.args.marks.now in
    let none = none_marked (by_place false marks.transform_left x y) (by_place false marks.prediction_left x y)
    (by_place false marks.transform_top x y) (by_place false marks.prediction_top x y)
    (sym c.is_at_edge.ensures ∙ c.if-is_at_edge.false) in
    not_marked _ _ _ _ _ _ (marked.transform_top x y c.requires.x c.requires.y)
    (marked.prediction_top x y c.requires.x c.requires.y) none.1.1.0 none.1.1.1
