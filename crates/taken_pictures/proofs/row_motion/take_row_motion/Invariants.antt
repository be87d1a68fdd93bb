use Rattle.std.proofs.Common.{◌≡◌, ℕ, ◌*◌, ◌/◌, ◌<◌, ◌&&◌, cond, nat_lt}
use Rattle.picture_buffer.specs.Motion.{HasPlaces, motions_of}
use Rattle.spec_flights.specs.Pictures.{folded_at}
use Rattle.progress_words.specs.Passes.{Knows, view}
use Rattle.sample_lines.specs.FactsOfFlights.{flight_in}
use Rattle.taken_pictures.specs.Rows.{is_place_of_row, side_places}
use Rattle.taken_pictures.proofs.row_motion.take_row_motion.Given as goal

abbrev pub invariant-loop-column : goal.invariant-loop-column
invariant-loop-column l = record {
  knows : Knows l.fn.pass l.pass (view l.fn.pass);
  sides : HasPlaces l.field (l.layout.width / 4) (l.layout.height / 4);
  places : (i j : ℕ) → i < l.layout.width / 4 → j < l.layout.height / 4
      → motions_of l.field i j
      ≡ cond (is_place_of_row l.layout l.line.row j && nat_lt i (side_places l.layout * l.column))
      ((folded_at (flight_in l.board.flight) l.line.picture).motions i j) (motions_of l.fn.field i j);
}
