use Rattle.progress_words.specs.Passes.{IsPassOf, Knows, view}
use Rattle.sample_words.specs.Sizes.{columns}
use Rattle.filter_words.specs.Regions.{LaysUnits, is_inside}
use Rattle.filter_words.specs.Units.{filters_at}
use Rattle.filter_words.proofs.row_offsets.lay_three_rows.Given as goal

abbrev pub invariant-loop-row : goal.invariant-loop-row
invariant-loop-row l = record {
  own : IsPassOf l.board l.pass;
  knows : Knows l.fn.pass l.pass (view l.fn.pass);
  lays : LaysUnits (is_inside 0 (columns l.layout) l.first l.row) (filters_at l.board.flight l.line).units
      l.fn.around l.around;
}
