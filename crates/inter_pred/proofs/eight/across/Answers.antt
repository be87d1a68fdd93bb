use Rattle.std.proofs.Common.{◌∙◌, ap, ℤ, pos, ◌+ℤ◌, ◌+◌, ◌*◌, arith}
use Rattle.std.proofs.lemmas.Int.{ints}
use Rattle.inter_pred.proofs.ByteJoining.{across_joined}
use Rattle.inter_pred.proofs.Holding.{value_is}
use Rattle.inter_pred.proofs.eight.across.Goals as goal

pub returns-clause-value : goal.returns-clause-value
returns-clause-value g c x y m n =
    let e =
    across_joined (g.V.RefWindow.reference_at c.args.view.now c.args.first.picture c.args.first.component) g.row.TAPS
    c.args.fraction c.args.first.x c.args.first.y _ _ _ c.args.first.width c.args.first.height x y
    c.requires.taps m n (omega (arith, ints)) (omega (arith, ints))
    (λ i j p q. c.gather_bytes.ensures.value i j (omega arith) q) in
    value_is _ (64 * y + x) _ (omega arith)
    (c.filter_bytes.ensures.value x y (omega arith) n ∙ ap (λ (z : ℤ). pos 16896 +ℤ z) e)
