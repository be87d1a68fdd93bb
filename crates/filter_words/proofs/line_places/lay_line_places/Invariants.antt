use Rattle.std.proofs.Common.{◌+◌, ◌*◌, ◌/◌, min}
use Rattle.progress_words.specs.Passes.{IsPassOf, Knows, view}
use Rattle.filter_words.specs.Regions.{LaysPlaces, is_inside}
use Rattle.filter_words.specs.Units.{places_at, unit_side}
use Rattle.filter_words.proofs.line_places.lay_line_places.Given as goal

abbrev pub invariant-loop-x : goal.invariant-loop-x
invariant-loop-x l = record {
  own : IsPassOf l.board l.pass;
  knows : Knows l.fn.pass l.pass (view l.fn.pass);
  lays : LaysPlaces
      (is_inside 0 (min (unit_side l.layout * l.x) (l.layout.width / 4)) (unit_side l.layout * l.line.row + l.first)
      (unit_side l.layout * l.line.row + l.end))
      (places_at l.board.flight l.line) l.fn.around l.around;
}
