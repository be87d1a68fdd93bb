use Rattle.board_core.specs.Progress.{AreDone}
use Rattle.board_core.proofs.core_state.Core.first_left.Given as goal

abbrev pub invariant-loop-ticket : goal.invariant-loop-ticket
invariant-loop-ticket l = AreDone l.fn.self.plan l.fn.self.state l.ticket
