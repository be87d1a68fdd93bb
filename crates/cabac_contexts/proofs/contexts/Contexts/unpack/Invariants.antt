use Rattle.std.proofs.Common.{◌≡◌, ℕ, ◌/◌, ◌%◌, ◌<◌, length, slice_index}
use Rattle.std.specs.Int.{w64, to_le_bytes}
use Rattle.cabac_contexts.proofs.contexts.Contexts.unpack.Given as goal

abbrev pub invariant-loop-i : goal.invariant-loop-i
invariant-loop-i l = record {
  count : length l.values ≡ 154;
  told : (k : ℕ) → k < l.i
      → slice_index l.values k ≡ slice_index (to_le_bytes w64 (slice_index l.words (k / 8))) (k % 8);
}
