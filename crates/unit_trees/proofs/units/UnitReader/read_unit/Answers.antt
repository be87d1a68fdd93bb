use Rattle.std.proofs.Common.{◌≤◌, Ok, Err, ◌∙◌, subst}
use Rattle.coding_quadtree.specs.CabacContexts.{state_of}
use Rattle.unit_trees.proofs.Beside.{IsAt, follows_over}
use Rattle.unit_trees.proofs.Following.{follows_more}
use Rattle.unit_trees.proofs.units.UnitReader.read_unit.Goals as goal

pub returns-in-Err-clause-value : goal.returns-in-Err-clause-value
returns-in-Err-clause-value c =
    let place = c.place_at-place.ensures in
    let stands : IsAt c.args.segment.now.picture c.args.segment.now.shape c.args.address c.place_at-place.result =
    record {
      some = subst (λ w. 1 ≤ w) place.width place.some;
      at = place.at;
      size = place.size;
      width = place.width;
      y = place.y;
      last = place.last;
      subset = place.subset;
    } in
    follows_over c.args.segment.now.syntax c.args.segment.now.picture c.args.segment.now.shape c.args.address
    c.args.left.now c.args.above.now c.syntax_at-syntax.result c.place_at-place.result c.args.self.now.last
    (state_of c.args.self.now.bins) c.syntax_at-syntax.ensures.value stands place.qp (Err c.in-Err.breach)
    c.read_ctu.new.records (state_of c.read_ctu.new.reader) c.in-Err.ensures.value

pub returns-in-Ok-clause-value : goal.returns-in-Ok-clause-value
returns-in-Ok-clause-value c =
    let place = c.place_at-place.ensures in
    let stands : IsAt c.args.segment.now.picture c.args.segment.now.shape c.args.address c.place_at-place.result =
    record {
      some = subst (λ w. 1 ≤ w) place.width place.some;
      at = place.at;
      size = place.size;
      width = place.width;
      y = place.y;
      last = place.last;
      subset = place.subset;
    } in
    follows_over c.args.segment.now.syntax c.args.segment.now.picture c.args.segment.now.shape c.args.address
    c.args.left.now c.args.above.now c.syntax_at-syntax.result c.place_at-place.result c.args.self.now.last
    (state_of c.args.self.now.bins) c.syntax_at-syntax.ensures.value stands place.qp (Ok c.in-Ok.end)
    c.read_ctu.new.records (state_of c.read_ctu.new.reader) c.in-Ok.ensures.value

pub returns-in-Ok-clause-more : goal.returns-in-Ok-clause-more
returns-in-Ok-clause-more c not_last no_subset =
    follows_more _ _ _ _ _ _ _ _ _ _ c.in-Ok.ensures.value (c.place_at-place.ensures.last ∙ not_last)
    (c.place_at-place.ensures.subset ∙ no_subset)
