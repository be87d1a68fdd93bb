-- A list of 16 weights.
use Rattle.std.proofs.Common.{◌≡◌, ℕ, ◌<◌, List, length, get_or}
use Rattle.std.proofs.lemmas.List.FromFn.{fill_by_all}
use Rattle.slice_types.specs.declared.weights.RefWeights.{RefWeights}
use Rattle.spec_inter_prediction.specs.declared.tables.ReferenceWeights.{ReferenceWeights}
use Rattle.spec_inter_prediction.specs.Tables.{no_weights}
use Rattle.spec_picture_build.specs.Weights.{weights_at, weights_in}

pub listed : (luma chroma : ℕ) (list : List RefWeights) (all : List ReferenceWeights) → length all ≡ 16
    → ((k : ℕ) → k < 16 → get_or all k no_weights ≡ weights_at luma chroma list k) → all ≡ weights_in luma chroma list
unfolding weights_in
listed luma chroma list all full each = fill_by_all (weights_at luma chroma list) all 16 no_weights full each
