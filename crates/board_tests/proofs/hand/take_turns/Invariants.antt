use Rattle.board_tests.specs.Stands.{AreHands}
use Rattle.board_tests.proofs.hand.take_turns.Given as goal

abbrev pub invariant-loop-turn : goal.invariant-loop-turn
invariant-loop-turn l = AreHands l.fn.board l.flight l.first l.second
