use Rattle.std.proofs.Common.{◌≡◌, ℕ, ◌<◌, ◌/◌, ◌%◌, ◌*◌, ◌^◌, length, slice_index}
use Rattle.spec_reconstruction.specs.Factors.{listed_factor}
use Rattle.scaling_factors.proofs.block.lay_list.Given as goal

abbrev pub invariant-loop-k : goal.invariant-loop-k
invariant-loop-k l = record {
  count : length l.block ≡ 2 ^ l.log2 * 2 ^ l.log2;
  told : (k : ℕ) → k < l.k → slice_index l.block k ≡ listed_factor l.list l.log2 (k % 2 ^ l.log2) (k / 2 ^ l.log2);
}
