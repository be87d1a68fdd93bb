use Rattle.std.proofs.Common.{◌≡◌, ◌≤◌, get_or}
use Rattle.progress_words.specs.Passes.{view}
use Rattle.board_tests.specs.Sums.{left_of}
use Rattle.board_tests.specs.Steps.{IsAt, IsSame}
use Rattle.board_tests.specs.Passes.{IsOf}
use Rattle.board_tests.proofs.worker.build_line.Given as goal

abbrev pub invariant-loop-unit : goal.invariant-loop-unit
invariant-loop-unit g l =
    IsOf l.fn.board l.flight l.pass × IsAt (view l.pass) l.line l.unit 0 × IsSame (view l.fn.pass) (view l.pass)
    × (l.left ≡ left_of l.flight.input.items l.flight.width l.line l.unit)
    × (l.unit ≤ get_or l.flight.marks.items l.line 0)
