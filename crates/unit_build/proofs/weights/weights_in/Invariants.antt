use Rattle.std.proofs.Common.{◌≡◌, ℕ, ◌<◌, length, get_or}
use Rattle.std.specs.List.{All}
use Rattle.spec_inter_prediction.specs.Tables.{AreWeights, no_weights}
use Rattle.spec_picture_build.specs.Weights.{weights_at}
use Rattle.unit_build.proofs.weights.weights_in.Given as goal

abbrev pub invariant-loop-k : goal.invariant-loop-k
invariant-loop-k l = record {
  count : length l.all ≡ 16;
  told : (q : ℕ) → q < l.k → get_or l.all q no_weights ≡ weights_at l.luma l.chroma l.list q;
  range : All AreWeights l.all;
}
