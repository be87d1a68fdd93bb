use Rattle.std.proofs.Common.{ℕ, ◌≡◌, ◌+◌, ◌<◌, length, get_or}
use Rattle.progress_words.specs.Passes.{Knows, view}
use Rattle.line_words.specs.Places.{word_at}
use Rattle.line_words.proofs.runs.read_run.Given as goal

abbrev pub invariant-loop-k : goal.invariant-loop-k
invariant-loop-k g l = record {
  count : length l.out ≡ length l.fn.out;
  knows : Knows l.fn.pass l.pass (view l.fn.pass);
  values : (j : ℕ) → j < l.k
      → get_or l.out j 0 ≡ (g.F.RowFacts.flight l.board.flight).expected (word_at l.at (l.first + j));
}
