use Rattle.std.proofs.Common.{◌≡◌, ℕ, ◌*◌, ◌/◌, ◌%◌, ◌<◌, ◌≤◌, length, slice_index}
use Rattle.sample_words.specs.Packing.{lane}
use Rattle.unit_words.proofs.octets.unpack_octets.Given as goal

abbrev pub invariant-loop-k : goal.invariant-loop-k
invariant-loop-k l = record {
  count : length l.samples ≡ length l.fn.samples;
  room : 8 * l.whole ≤ length l.fn.samples;
  told : (i : ℕ) → i < 8 * l.k → slice_index l.samples i ≡ lane 8 (slice_index l.words (i / 8)) (i % 8);
}

abbrev pub invariant-loop-i : goal.invariant-loop-i
invariant-loop-i l = record {
  count : length l.samples ≡ length l.fn.samples;
  told : (i : ℕ) → i < l.i → slice_index l.samples i ≡ lane 8 (slice_index l.words (i / 8)) (i % 8);
}
