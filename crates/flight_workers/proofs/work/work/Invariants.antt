use Rattle.progress_words.specs.Passes.{view}
use Rattle.progress_words.specs.Views.{seen_of}
use Rattle.flight_workers.proofs.Steps.{IsBetween}
use Rattle.flight_workers.proofs.work.work.Given as goal

abbrev pub invariant-loop : goal.invariant-loop
invariant-loop g l =
    IsBetween l.board l.fn.start l.pass
    × g.W.LineWorker.stands l.worker l.board.flight (seen_of (view l.pass))
