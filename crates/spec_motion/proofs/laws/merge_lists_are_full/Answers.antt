use Rattle.std.proofs.Common.{ℕ, ◌-◌, ◌≤◌, List, ◌++◌, length, map, arith, length-append}
use Rattle.std.specs.List.{range_with_len}
use Rattle.std.proofs.lemmas.List.FromFn.{length-map-range_with_len}
use Rattle.spec_motion.specs.declared.vectors.Motion.{Motion}
use Rattle.spec_motion.specs.Merging.{combined_candidates, completed, found_candidates, merge_candidates}
use Rattle.spec_motion.specs.Merging.{zero_candidate}
use Rattle.spec_motion.proofs.laws.merge_lists_are_full.Goals as goal

is_full : (full : List Motion) (f : ℕ → Motion) (n : ℕ)
    → n ≤ length (full ++ map f (range_with_len 0 (n - length full)))
is_full full f n =
    let a = length-append full (map f (range_with_len 0 (n - length full))) in
    let b = length-map-range_with_len f 0 (n - length full) in
    omega arith

pub returns : goal.returns
unfolding merge_candidates completed
returns c = λ slice beneath known unit.
    let found : List Motion = found_candidates slice beneath known unit in
    is_full (found ++ combined_candidates slice found) (zero_candidate slice) slice.max_candidates
