use Rattle.std.proofs.Common.{◌≡◌, ℕ, ◌<◌, length, pos, slice_index_or}
use Rattle.spec_sample_adaptive_offset.specs.Offsets.{edge_idx, offset_value}
use Rattle.sao_filter.proofs.changes.edge_changes.Given as goal

abbrev pub invariant-loop-k : goal.invariant-loop-k
invariant-loop-k l = record {
  length : length l.table ≡ 5;
  told : (q : ℕ) → q < l.k → slice_index_or l.table q (pos 0) ≡ offset_value l.depth l.offsets (edge_idx q);
}
