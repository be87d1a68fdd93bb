use Rattle.std.proofs.Common.{sym, subst}
use Rattle.progress_words.specs.Passes.{view}
use Rattle.progress_words.specs.Views.{HasEnded}
use Rattle.board_tests.specs.declared.flight.Sums.{Sums}
use Rattle.board_tests.specs.Passes.{meaning_in}
use Rattle.board_tests.proofs.worker.+fan+fn-fan-join+arg2.Goals as goal

pub join-requires-clause-ended : goal.join-requires-clause-ended
join-requires-clause-ended g bound c =
    let e = c.join-mine.ensures in
    let mine = view c.join-mine.result.0 in let theirs = view c.join-mine.result.1 in
    subst (λ (b : Sums). HasEnded (meaning_in b) mine × HasEnded (meaning_in b) theirs) (sym c.requires.own.0.1)
    (e.first.1.ended, e.second.1.ended)
