use Rattle.std.proofs.Common.{◌+◌, ◌*◌, arith}
use Rattle.std.proofs.lemmas.Int.{ints}
use Rattle.inter_pred.proofs.Holding.{sample_is}
use Rattle.inter_pred.proofs.Joining.{whole_joined}
use Rattle.inter_pred.proofs.between.whole.Goals as goal

pub returns-clause-value : goal.returns-clause-value
returns-clause-value g c x y m n =
    let e =
    whole_joined (g.V.RefWindow.reference_at c.args.view.now c.args.first.picture c.args.first.component) g.row.TAPS
    c.args.depth x y _ c.args.first.x c.args.first.y _ _
    c.requires.taps c.requires.depth (omega (arith, ints)) (omega (arith, ints)) (c.gather.ensures.value x y m n) in
    sample_is _ (64 * y + x) _ _ (omega arith) (c.copy.ensures x y m n) e
