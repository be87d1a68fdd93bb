use Rattle.spec_boundary_strengths.specs.Strengths.{left_strength}
use Rattle.boundary_strengths.proofs.EdgeSides.{still, with_edge, without_edge}
use Rattle.boundary_strengths.proofs.edges.intra_left.Goals as goal

pub returns-then-is_edge : goal.returns-then-is_edge
unfolding left_strength
returns-then-is_edge c pcm_disabled items motion marked none =
    let transform = marked.transform_left c.args.x c.args.y c.requires.x c.requires.y in
    let prediction = marked.prediction_left c.args.x c.args.y c.requires.x c.requires.y in
    with_edge _ _ _ _ _ _ _ _ c.if-is_edge.true c.is_edge.ensures transform prediction (still _ _ _ none)

pub returns-else-is_edge : goal.returns-else-is_edge
unfolding left_strength
returns-else-is_edge c pcm_disabled items motion marked none =
    let transform = marked.transform_left c.args.x c.args.y c.requires.x c.requires.y in
    let prediction = marked.prediction_left c.args.x c.args.y c.requires.x c.requires.y in
    without_edge _ _ _ _ _ _ _ c.if-is_edge.false c.is_edge.ensures transform prediction
