use Rattle.std.proofs.Common.{◌≡◌, sym, ◌∙◌}
use Rattle.intra_pred.proofs.Smoothed.{strong_is_32}
use Rattle.intra_pred.proofs.smoothing.filter.Goals as goal

pub straighten-requires : goal.straighten-requires
straighten-requires c =
    let e : c.args.log2 ≡ 5 =
    strong_is_32 c.args.log2 c.args.strong c.args.depth c.args.edge.now
    (sym c.is_strong.ensures ∙ c.if-is_strong.true) in
    rw e at c.requires.edge
