use Rattle.std.proofs.Common.{sym, subst}
use Rattle.progress_words.specs.Passes.{view}
use Rattle.progress_words.specs.Views.{HasEnded}
use Rattle.board_tests.specs.declared.flight.Sums.{Sums}
use Rattle.board_tests.specs.Passes.{meaning_in}
use Rattle.board_tests.proofs.Closes.{count_is, fault_is, words_are}
use Rattle.board_tests.proofs.worker.sums.Goals as goal

pub close-requires-clause-done : goal.close-requires-clause-done
close-requires-clause-done g c =
    let e = c.fan-whole.ensures.gathered in (
      e.none,
      subst (λ (b : Sums). HasEnded (meaning_in b) (view c.fan-whole.result))
          (sym c.in_ok-board.ensures.0.1) e.ended,
    )

pub returns-clause-count : goal.returns-clause-count
returns-clause-count g c = count_is _ c.args.flight.now c.in_ok-board.ensures.0.1 _ c.close.ensures.count

pub returns-clause-fault : goal.returns-clause-fault
returns-clause-fault g c = fault_is _ c.args.flight.now c.in_ok-board.ensures.0.1 _ c.close.ensures.fault

pub returns-clause-words : goal.returns-clause-words
returns-clause-words g c = words_are _ c.args.flight.now c.in_ok-board.ensures.0.1 _ c.close.ensures.words
