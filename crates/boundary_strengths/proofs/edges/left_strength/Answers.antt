use Rattle.std.proofs.Common.{refl}
use Rattle.spec_boundary_strengths.specs.Strengths.{left_strength}
use Rattle.boundary_strengths.proofs.EdgeSides.{strength_same, with_edge, without_edge}
use Rattle.boundary_strengths.proofs.edges.left_strength.Goals as goal

pub returns-then-is_edge : goal.returns-then-is_edge
unfolding left_strength
returns-then-is_edge g c pcm_disabled items marked =
    let transform = marked.transform_left c.args.x c.args.y c.requires.x c.requires.y in
    let prediction = marked.prediction_left c.args.x c.args.y c.requires.x c.requires.y in
    let motion = g.V.PlaceMotions.motion_at c.args.view.now in
    let before = c.coded_around-before.ensures pcm_disabled items motion marked in
    let behind = c.coded_around-behind.ensures pcm_disabled items motion marked in
    with_edge _ _ _ _ _ _ _ _ c.if-is_edge.true c.is_edge.ensures transform prediction
    (strength_same _ _ _ _ _ _ _ _ _ _ _ _ c.strength_behind.ensures c.is_coded-coded.ensures transform before behind
    refl c.requires.motion)

pub returns-else-is_edge : goal.returns-else-is_edge
unfolding left_strength
returns-else-is_edge g c pcm_disabled items marked =
    let transform = marked.transform_left c.args.x c.args.y c.requires.x c.requires.y in
    let prediction = marked.prediction_left c.args.x c.args.y c.requires.x c.requires.y in
    without_edge _ _ _ _ _ _ _ c.if-is_edge.false c.is_edge.ensures
    transform prediction
