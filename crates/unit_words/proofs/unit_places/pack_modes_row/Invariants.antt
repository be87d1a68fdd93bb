use Rattle.std.proofs.Common.{◌≡◌, ℕ, ◌<◌, length, slice_index}
use Rattle.sample_words.specs.Values.{modes_word}
use Rattle.unit_words.specs.Units.{unit_modes, unit_motion}
use Rattle.unit_words.proofs.unit_places.pack_modes_row.Given as goal

abbrev pub invariant-loop-x : goal.invariant-loop-x
invariant-loop-x l = record {
  count : length l.words ≡ length l.fn.words;
  told : (x : ℕ) → x < l.x → slice_index l.words x
      ≡ modes_word (unit_modes l.source.records.now l.source.filters.now l.source.segment x l.y)
      (unit_motion l.source.motion.now x l.y);
}
