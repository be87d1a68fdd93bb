use Rattle.std.proofs.Common.{ℕ, ◌≡◌, ◌+◌, ◌*◌, ◌<◌, length, slice_index}
use Rattle.progress_words.specs.Passes.{Knows, view}
use Rattle.flight_facts.specs.Facts.{flight_in}
use Rattle.sample_lines.specs.Lines.{sample_of, width_at}
use Rattle.sample_lines.proofs.laying.lay_lines.Given as goal

abbrev pub invariant-loop-y : goal.invariant-loop-y
invariant-loop-y l = record {
  count : length l.out ≡ length l.fn.out;
  knows : Knows l.fn.pass l.pass (view l.fn.pass);
  told : (x j : ℕ) → x < width_at l.at l.lines.c → j < l.y
      → slice_index l.out (l.lines.stride * j + (l.lines.left + x))
      ≡ sample_of (flight_in l.board.flight) l.at l.lines.c x (l.lines.first + j);
  kept : (x j : ℕ) → x < l.lines.left
      → slice_index l.out (l.lines.stride * j + x) ≡ slice_index l.fn.out (l.lines.stride * j + x);
}
