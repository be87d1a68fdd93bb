use Rattle.std.proofs.Common.{rules, ◌∙◌, ap, ℤ, pos, ◌+ℤ◌, ◌+◌, ◌*◌, arith}
use Rattle.std.proofs.lemmas.Int.{to_z-of_z}
use mir.Val.{SFits}
use mir.Syntax.{w32}
use Rattle.inter_pred.proofs.ByteJoining.{both_joined}
use Rattle.inter_pred.proofs.Holding.{value_is}
use Rattle.inter_pred.proofs.eight.both.Goals as goal

pub returns-clause-value : goal.returns-clause-value
returns-clause-value g c x y m n =
    let left : SFits w32 c.args.first.x = search rules in
    let top : SFits w32 c.args.first.y = search rules in
    let e =
    both_joined (g.V.RefWindow.reference_at c.args.view.now c.args.first.picture c.args.first.component) g.row.TAPS
    c.args.fractions.across c.args.fractions.down c.args.first.x c.args.first.y _ _ c.args.first.width
    c.args.first.height x y
    (omega arith) m n
    (λ i j p q. let t = c.gather_bytes.ensures.value i j (omega arith) (omega arith) in grind (arith, to_z-of_z, t))
    (λ i j p q. c.filter_bytes.ensures.value i j (omega arith) (omega arith)) in
    value_is _ (64 * y + x) _ (omega arith)
    (c.columns_at.ensures x y (omega arith) n ∙ ap (λ (z : ℤ). pos 16896 +ℤ z) e)
