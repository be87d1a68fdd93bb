use Rattle.std.proofs.Common.{ℕ, ◌<◌}
use Rattle.progress_words.specs.Passes.{IsPassOf, view}
use Rattle.line_words.specs.Passes.{AreAllSound}
use Rattle.sample_lines.specs.FactsOfFlights.{flight_meaning}
use Rattle.sample_lines.specs.FactsOfFlights.{flight_in}
use Rattle.taken_pictures.specs.Pictures.{IsBuiltAndFinal, HasSeenMore}
use Rattle.taken_pictures.proofs.seen_rows.see_picture.Given as goal

abbrev pub invariant-loop-row : goal.invariant-loop-row
invariant-loop-row g l = record {
  own : IsPassOf l.board l.pass;
  kept : HasSeenMore (view l.fn.pass) (view l.pass);
  known : AreAllSound (flight_meaning (flight_in l.board.flight)) (view l.pass);
  seen : (row : ℕ) → row < l.row → IsBuiltAndFinal l.layout (view l.pass) l.picture row;
}
