use Rattle.std.proofs.Common.{◌≡◌, ℕ, ◌+◌, min, ap, ◌∙◌, arith}
use Rattle.inter_pred.specs.Passes.{at}
use Rattle.inter_pred.proofs.Lanes.{eight_more}
use Rattle.inter_pred.proofs.line.copy_line.Goals as goal

pub loop-out-preserved : goal.loop-out-preserved
loop-out-preserved c =
    eight_more (λ j. min (at c.args.line.now (c.args.from + j)) c.args.greatest) _ _ _ c.loop-out.invariant
    c.eight.ensures.long (omega arith) (λ i lt.
    let e : c.args.from + c.loop-out.k + i ≡ c.args.from + (c.loop-out.k + i) = omega arith in
    c.eight.ensures.value i lt ∙ ap (λ (n : ℕ). min (at c.args.line.now n) c.args.greatest) e)
