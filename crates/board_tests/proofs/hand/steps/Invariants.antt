use Rattle.board_tests.specs.Stands.{IsHand}
use Rattle.board_tests.proofs.hand.steps.Given as goal

abbrev pub invariant-loop : goal.invariant-loop
invariant-loop l = IsHand l.fn.board l.flight l.hand
