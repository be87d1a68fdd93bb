use Rattle.progress_words.specs.Passes.{IsPassOf, Knows, view}
use Rattle.filter_words.specs.Regions.{LaysPlaces}
use Rattle.filter_words.specs.Units.{is_in_unit, places_at}
use Rattle.filter_words.proofs.unit_places.lay_rows.Given as goal

abbrev pub invariant-loop-y : goal.invariant-loop-y
invariant-loop-y l = record {
  own : IsPassOf l.board l.pass;
  knows : Knows l.fn.pass l.pass (view l.fn.pass);
  lays : LaysPlaces (is_in_unit l.unit l.first l.y) (places_at l.board.flight l.unit.line) l.fn.around l.around;
}
