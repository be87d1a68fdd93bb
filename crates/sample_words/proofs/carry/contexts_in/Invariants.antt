use Rattle.std.proofs.Common.{◌≡◌, ℕ, ◌+◌, ◌<◌, length, slice_index}
use Rattle.sample_words.proofs.carry.contexts_in.Given as goal

abbrev pub invariant-loop-k : goal.invariant-loop-k
invariant-loop-k l = record {
  count : length l.contexts ≡ 20;
  told : (k : ℕ) → k < l.k → slice_index l.contexts k ≡ slice_index l.words (3 + k);
}
