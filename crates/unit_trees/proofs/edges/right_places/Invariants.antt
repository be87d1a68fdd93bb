use Rattle.std.proofs.Common.{◌≡◌, ℕ, ◌-◌, ◌<◌, length, get_or}
use Rattle.ctu_records.specs.Tree.{no_side}
use Rattle.spec_slice_data.specs.Segment.{side_of}
use Rattle.unit_trees.proofs.edges.right_places.Given as goal

abbrev pub invariant-loop-k : goal.invariant-loop-k
invariant-loop-k l = record {
  count : length l.places ≡ 16;
  told : (q : ℕ) → q < l.k → get_or l.places q no_side ≡ side_of l.records (l.n - 1) q;
}
