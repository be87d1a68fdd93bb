use Rattle.std.proofs.Common.{ap, ◌∙◌, arith}
use Rattle.std.proofs.lemmas.Int.{ints}
use Rattle.spec_inter_prediction.specs.Weighting.{default_one}
use Rattle.inter_pred.proofs.ByteJoining.{whole_bytes}
use Rattle.inter_pred.proofs.Means.{held_back}
use Rattle.inter_pred.proofs.eight.whole_samples.Goals as goal

pub returns-clause-value : goal.returns-clause-value
returns-clause-value g c x y m n =
    let e =
    whole_bytes (g.V.RefWindow.reference_at c.args.view.now c.args.first.picture c.args.first.component) g.row.TAPS
    x y _ c.args.first.x c.args.first.y _ _
    c.requires.taps (omega (arith, ints)) (omega (arith, ints)) (c.gather_bytes.ensures.value x y (omega arith) n) in
    c.lay_bytes.ensures x y (omega arith) n ∙ held_back _ ∙ ap (default_one 8) e
