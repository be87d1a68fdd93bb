use Rattle.std.proofs.Common.{◌≡◌, ℕ, ◌*◌, ◌/◌, ◌<◌}
use Rattle.picture_buffer.specs.Motion.{HasPlaces, motions_of}
use Rattle.spec_flights.specs.Pictures.{folded_at}
use Rattle.progress_words.specs.Passes.{Knows, view}
use Rattle.sample_lines.specs.FactsOfFlights.{flight_in}
use Rattle.taken_pictures.specs.Rows.{side_places}
use Rattle.taken_pictures.proofs.whole_pictures.take_motion.Given as goal

abbrev pub invariant-loop-row : goal.invariant-loop-row
invariant-loop-row l = record {
  knows : Knows l.fn.pass l.pass (view l.fn.pass);
  places : HasPlaces l.field (l.layout.width / 4) (l.layout.height / 4);
  motions : (i j : ℕ) → i < l.layout.width / 4 → j < l.layout.height / 4 → j < side_places l.layout * l.row
      → motions_of l.field i j ≡ (folded_at (flight_in l.board.flight) l.picture).motions i j;
}
