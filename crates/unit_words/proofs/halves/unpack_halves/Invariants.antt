use Rattle.std.proofs.Common.{◌≡◌, ℕ, ◌*◌, ◌/◌, ◌%◌, ◌<◌, ◌≤◌, length, slice_index}
use Rattle.sample_words.specs.Packing.{lane}
use Rattle.unit_words.proofs.halves.unpack_halves.Given as goal

abbrev pub invariant-loop-k : goal.invariant-loop-k
invariant-loop-k l = record {
  count : length l.samples ≡ length l.fn.samples;
  room : 4 * l.whole ≤ length l.fn.samples;
  told : (i : ℕ) → i < 4 * l.k → slice_index l.samples i ≡ lane 16 (slice_index l.words (i / 4)) (i % 4);
}

abbrev pub invariant-loop-i : goal.invariant-loop-i
invariant-loop-i l = record {
  count : length l.samples ≡ length l.fn.samples;
  told : (i : ℕ) → i < l.i → slice_index l.samples i ≡ lane 16 (slice_index l.words (i / 4)) (i % 4);
}
