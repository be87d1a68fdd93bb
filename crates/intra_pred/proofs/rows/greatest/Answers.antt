use Rattle.std.proofs.Common.{◌≤◌, ◌<◌, ◌+◌, ℕ, below_more, arith}
use Rattle.spec_intra_prediction.specs.Neighbours.{at}
use Rattle.intra_pred.proofs.rows.greatest.Goals as goal

pub loop-k-preserved : goal.loop-k-preserved
loop-k-preserved c =
    let told = c.max-greatest.ensures in
    let more : (k : ℕ) → k < c.loop-k.k → at c.args.samples.now k ≤ c.max-greatest.result =
    λ k few. omega (arith, told, c.loop-k.invariant.0 k few) in
    let least : (bound : ℕ) → ((k : ℕ) → k < c.loop-k.k + 1 → at c.args.samples.now k ≤ bound)
    → c.max-greatest.result ≤ bound =
    λ bound each. omega (
      arith,
      told,
      each c.loop-k.k (omega arith),
      c.loop-k.invariant.1 bound (λ k few. each k (omega (arith, few))),
    ) in
    (below_more _ _ more (omega (arith, told)), least)
