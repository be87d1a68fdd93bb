use Rattle.progress_words.specs.Passes.{IsPassOf, view}
use Rattle.flight_lines.specs.Numbers.{numbered_needs}
use Rattle.line_words.proofs.Waiting.{HasCome}
use Rattle.line_words.proofs.waits.wait_for.Given as goal

abbrev pub invariant-loop : goal.invariant-loop
invariant-loop g l = record {
  own : IsPassOf l.board l.pass;
  come : HasCome (g.F.Facts.meaning l.board.flight) (view l.fn.pass) (numbered_needs l.layout l.needs) l.index
      (view l.pass);
}
