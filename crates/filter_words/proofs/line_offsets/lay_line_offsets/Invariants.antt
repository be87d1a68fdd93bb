use Rattle.std.proofs.Common.{◌+◌}
use Rattle.progress_words.specs.Passes.{IsPassOf, Knows, view}
use Rattle.filter_words.specs.Regions.{LaysUnits, is_inside}
use Rattle.filter_words.specs.Units.{filters_at}
use Rattle.filter_words.proofs.line_offsets.lay_line_offsets.Given as goal

abbrev pub invariant-loop-x : goal.invariant-loop-x
invariant-loop-x l = record {
  own : IsPassOf l.board l.pass;
  knows : Knows l.fn.pass l.pass (view l.fn.pass);
  lays : LaysUnits (is_inside 0 l.x l.line.row (l.line.row + 1)) (filters_at l.board.flight l.line).units
      l.fn.around l.around;
}
