use Rattle.board_tests.proofs.Closes.{count_is, fault_is, words_are}
use Rattle.board_tests.proofs.hand.sums_by_hand.Goals as goal

pub returns-clause-count : goal.returns-clause-count
returns-clause-count c = count_is _ c.args.flight.now c.in_ok-board.ensures.0.0.0.1 _ c.close.ensures.count

pub returns-clause-fault : goal.returns-clause-fault
returns-clause-fault c = fault_is _ c.args.flight.now c.in_ok-board.ensures.0.0.0.1 _ c.close.ensures.fault

pub returns-clause-words : goal.returns-clause-words
returns-clause-words c = words_are _ c.args.flight.now c.in_ok-board.ensures.0.0.0.1 _ c.close.ensures.words
