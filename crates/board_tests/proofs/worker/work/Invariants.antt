use Rattle.progress_words.specs.Passes.{view}
use Rattle.progress_words.specs.Views.{HasEnded}
use Rattle.board_tests.specs.Steps.{IsSame}
use Rattle.board_tests.specs.Passes.{IsOf, meaning_in}
use Rattle.board_tests.proofs.worker.work.Given as goal

abbrev pub invariant-loop : goal.invariant-loop
invariant-loop g l =
    IsOf l.fn.board l.flight l.pass × IsSame (view l.fn.start) (view l.pass) × HasEnded (meaning_in l.flight) (view
    l.pass)
