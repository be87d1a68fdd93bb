use Rattle.std.proofs.Common.{◌≡◌, ℕ, ◌+◌, ◌-◌, ◌&&◌, cond, nat_le, nat_lt, length, slice_index}
use Rattle.sample_words.specs.Packing.{lane}
use Rattle.unit_words.proofs.halves.lay_four.Given as goal

abbrev pub invariant-loop-j : goal.invariant-loop-j
invariant-loop-j l = record {
  count : length l.samples ≡ length l.fn.samples;
  told : (i : ℕ) → slice_index l.samples i
      ≡ cond (nat_le l.first i && nat_lt i (l.first + l.j)) (lane 16 l.word (i - l.first)) (slice_index l.fn.samples i);
}
