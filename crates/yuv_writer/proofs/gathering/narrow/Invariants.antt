use Rattle.std.proofs.Common.{◌≡◌, ℕ, ◌<◌, ◌%◌, length, slice_index}
use Rattle.yuv_writer.proofs.gathering.narrow.Given as goal

abbrev pub invariant-loop-k : goal.invariant-loop-k
invariant-loop-k l = record {
  count : length l.bytes ≡ length l.samples;
  told : (k : ℕ) → k < l.k → slice_index l.bytes k ≡ slice_index l.samples k % 256;
}
