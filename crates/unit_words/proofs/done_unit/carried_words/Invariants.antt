use Rattle.std.proofs.Common.{◌≡◌, ℕ, ◌<◌, length, slice_index}
use Rattle.sample_words.specs.Carried.{carried_word}
use Rattle.unit_words.proofs.done_unit.carried_words.Given as goal

abbrev pub invariant-loop-k : goal.invariant-loop-k
invariant-loop-k l = record {
  count : length l.words ≡ 24;
  told : (k : ℕ) → k < l.k → slice_index l.words k ≡ carried_word l.carry k;
}
