use Rattle.std.proofs.Common.{sym, ◌∙◌}
use Rattle.deblock.specs.Passes.{placed}
use Rattle.deblock.proofs.Edges.{edge_some, edge_within}
use Rattle.deblock.proofs.Near.{pair_more, pair_none}
use Rattle.deblock.proofs.pairs.filter_edge.Goals as goal

pub filter_both-requires-clause-edge : goal.filter_both-requires-clause-edge
filter_both-requires-clause-edge g c =
    edge_some c.args.e c.args.pass.now.side (sym c.is_edge.ensures ∙ c.if-is_edge.true)

pub filter_both-requires-clause-within : goal.filter_both-requires-clause-within
filter_both-requires-clause-within g c =
    edge_within c.args.e c.args.pass.now.side (sym c.is_edge.ensures ∙ c.if-is_edge.true)

pub returns-then-is_edge-clause-done : goal.returns-then-is_edge-clause-done
returns-then-is_edge-clause-done g c = λ f old.
    let yes = sym c.is_edge.ensures ∙ c.if-is_edge.true in
    pair_more c.args.pass.now (placed c.args.pass.now.window.turned (g.V.PlaceView.place_at c.args.view.now)) f
    c.args.s c.args.e c.filter_both.new.out c.args.out.now c.requires.pass c.requires.chroma c.requires.across
    c.requires.along (edge_some c.args.e c.args.pass.now.side yes) (edge_within c.args.e c.args.pass.now.side yes)
    c.filter_both.ensures.value old

pub returns-else-is_edge-clause-done : goal.returns-else-is_edge-clause-done
returns-else-is_edge-clause-done g c = λ f old.
    pair_none c.args.pass.now (placed c.args.pass.now.window.turned (g.V.PlaceView.place_at c.args.view.now)) f
    c.args.s c.args.e c.args.out.now c.requires.chroma c.requires.across c.requires.along
    (sym c.is_edge.ensures ∙ c.if-is_edge.false) old
