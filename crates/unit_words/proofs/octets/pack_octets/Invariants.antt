use Rattle.std.proofs.Common.{◌≡◌, ℕ, ◌+◌, ◌*◌, ◌<◌, ◌≤◌, length, slice_index}
use Rattle.sample_words.specs.Packing.{lanes}
use Rattle.unit_words.proofs.octets.pack_octets.Given as goal

abbrev pub invariant-loop-k : goal.invariant-loop-k
invariant-loop-k l = record {
  count : length l.words ≡ length l.fn.words;
  room : l.whole ≤ length l.fn.words;
  inside : 8 * l.whole ≤ length l.samples;
  told : (k : ℕ) → k < l.k → slice_index l.words k ≡ lanes 8 8 (λ j. slice_index l.samples (8 * k + j));
}

abbrev pub invariant-loop-last : goal.invariant-loop-last
invariant-loop-last l = record {
  count : length l.words ≡ length l.fn.words;
  told : (k : ℕ) → k < l.last → slice_index l.words k ≡ lanes 8 8 (λ j. slice_index l.samples (8 * k + j));
}
