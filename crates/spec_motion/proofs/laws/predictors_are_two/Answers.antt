use Rattle.std.proofs.Common.{◌≡◌, ◌+◌, List, [], ◌∷◌, ◌++◌, length, take, arith, length-append}
use Rattle.std.proofs.lemmas.List.{length-take}
use Rattle.ctu_records.specs.declared.prediction.Mv.{Mv}
use Rattle.spec_motion.specs.VectorPrediction.{mv_predictors}
use Rattle.spec_motion.specs.Vectors.{zero_mv}
use Rattle.spec_motion.proofs.laws.predictors_are_two.Goals as goal

two_taken : (xs : List Mv) → length (take 2 (xs ++ zero_mv ∷ zero_mv ∷ [])) ≡ 2
two_taken xs =
    let a = length-take 2 (xs ++ zero_mv ∷ zero_mv ∷ []) in
    let b : length (xs ++ zero_mv ∷ zero_mv ∷ []) ≡ length xs + 2 = length-append xs (zero_mv ∷ zero_mv ∷ []) in
    omega arith

pub returns : goal.returns
unfolding mv_predictors
returns c = λ slice beneath known block list ref_idx. two_taken _
