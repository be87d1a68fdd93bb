use Rattle.std.proofs.Common.{◌≡◌, ◌≤◌, length, take, filter_map}
use Rattle.spec_motion.specs.declared.pairs.TheConstants.{COMBINED_PAIRS}
use Rattle.spec_motion.specs.Merging.{combination}
use Rattle.motion_candidates.proofs.combining.nth_combination.Given as goal

abbrev pub invariant-loop-k : goal.invariant-loop-k
invariant-loop-k l = record {
  told : l.count ≡ length (filter_map (λ pair. combination l.slice l.found pair.0 pair.1) (take l.k COMBINED_PAIRS));
  few : l.count ≤ l.wanted;
}
