use Rattle.std.proofs.Common.{◌≡◌, ℕ, ◌+◌, ◌/◌, ◌&&◌, cond, nat_le, nat_lt}
use Rattle.picture_buffer.specs.Motion.{HasPlaces, motions_of}
use Rattle.spec_flights.specs.Pictures.{folded_at}
use Rattle.progress_words.specs.Passes.{Knows, view}
use Rattle.sample_lines.specs.FactsOfFlights.{flight_in}
use Rattle.taken_pictures.specs.Kept.{IsOfSegment}
use Rattle.taken_pictures.specs.Places.{column_at, row_at}
use Rattle.taken_pictures.proofs.row_motion.take_unit.Given as goal

abbrev pub invariant-loop-y : goal.invariant-loop-y
invariant-loop-y l = record {
  knows : Knows l.fn.pass l.pass (view l.fn.pass);
  slice : IsOfSegment l.plan l.unit.address l.segment;
  sides : HasPlaces l.field (l.layout.width / 4) (l.layout.height / 4);
  places : (i j : ℕ) → motions_of l.field i j
      ≡ cond ((nat_le (row_at l.at) j && nat_lt j (row_at l.at + l.y))
      && (nat_le (column_at l.at) i && nat_lt i (column_at l.at + l.words.columns)))
      ((folded_at (flight_in l.board.flight) l.at.line.picture).motions i j) (motions_of l.fn.field i j);
}
