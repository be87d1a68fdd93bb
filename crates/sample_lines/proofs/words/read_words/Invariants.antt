use Rattle.std.proofs.Common.{ℕ, ◌≡◌, ◌+◌, ◌*◌, ◌/◌, ◌%◌, ◌<◌, length, slice_index}
use Rattle.sample_words.specs.Packing.{lane}
use Rattle.sample_words.specs.Sizes.{samples_a_word}
use Rattle.sample_words.specs.Values.{sample_bits}
use Rattle.flight_facts.specs.SpecFlights.{expected}
use Rattle.progress_words.specs.Passes.{Knows, view}
use Rattle.line_words.specs.Places.{word_at}
use Rattle.flight_facts.specs.Facts.{flight_in}
use Rattle.sample_lines.proofs.words.read_words.Given as goal

abbrev pub invariant-loop-k : goal.invariant-loop-k
invariant-loop-k l = record {
  count : length l.out ≡ length l.fn.out;
  knows : Knows l.fn.pass l.pass (view l.fn.pass);
  told : (i : ℕ) → i < length l.fn.out → i < l.run * l.k → slice_index l.out i
      ≡ lane (sample_bits l.layout)
      (expected (flight_in l.board.flight) (word_at l.at (l.first + i / samples_a_word l.layout)))
      (i % samples_a_word l.layout);
}
