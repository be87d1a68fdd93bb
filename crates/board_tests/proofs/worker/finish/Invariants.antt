use Rattle.progress_words.specs.Passes.{view}
use Rattle.board_tests.specs.Steps.{IsAt, IsSame, IsReady}
use Rattle.board_tests.specs.Passes.{IsOf}
use Rattle.board_tests.proofs.worker.finish.Given as goal

abbrev pub invariant-loop-index : goal.invariant-loop-index
invariant-loop-index l =
    IsOf l.fn.board l.flight l.pass × IsAt (view l.pass) l.line l.unit l.index × IsSame (view l.fn.pass) (view l.pass)
    × IsReady l.flight.input.items l.flight.marks.items l.flight.rows l.flight.width (view l.pass) l.line l.unit
