use Rattle.std.proofs.Common.{◌≡◌, ℕ, ◌<◌, length, slice_index}
use Rattle.sample_words.specs.Values.{vectors_word}
use Rattle.unit_words.specs.Units.{unit_motion}
use Rattle.unit_words.proofs.unit_places.pack_vectors_row.Given as goal

abbrev pub invariant-loop-x : goal.invariant-loop-x
invariant-loop-x l = record {
  count : length l.words ≡ length l.fn.words;
  told : (x : ℕ) → x < l.x → slice_index l.words x ≡ vectors_word (unit_motion l.motion x l.y);
}
