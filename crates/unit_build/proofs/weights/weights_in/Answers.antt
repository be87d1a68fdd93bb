use Rattle.std.proofs.Common.{◌≢◌, ◌<◌, length, length-set, below_more, get_or-set_other, get_or-set_same, ◌∙◌, arith}
use Rattle.std.proofs.lemmas.List.Elements.{All-set}
use Rattle.spec_inter_prediction.specs.Tables.{AreWeights}
use Rattle.unit_build.proofs.Weighing.{listed}
use Rattle.unit_build.proofs.weights.weights_in.Goals as goal

pub loop-k-preserved : goal.loop-k-preserved
loop-k-preserved c =
    let lt : c.loop-k.k < length c.loop-k.all = omega (arith, c.loop-k.invariant.count, c.loop-k-test.true) in
    record {
      count = simp length-set c.loop-k.invariant.count;
      told = below_more _ _
          (λ q h. let ne : q ≢ c.loop-k.k = omega arith in rw get_or-set_other (c.loop-k.invariant.told q h))
          (get_or-set_same c.loop-k.all c.loop-k.k _ _ lt ∙ c.weights_at.ensures.value);
      range =
          All-set AreWeights c.loop-k.all c.loop-k.k c.weights_at.result c.weights_at.ensures.range
          c.loop-k.invariant.range;
    }

pub returns-clause-value : goal.returns-clause-value
returns-clause-value c = listed _ _ _ _ c.loop-k.invariant.count (λ k h. c.loop-k.invariant.told k (omega arith))
