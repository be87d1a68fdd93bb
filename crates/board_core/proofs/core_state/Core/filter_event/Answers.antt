use Rattle.board_core.proofs.Progress.{left_filterable}
use Rattle.board_core.proofs.core_state.Core.filter_event.Goals as goal

pub returns-clause-ready : goal.returns-clause-ready
returns-clause-ready c =
    left_filterable c.args.self.now.plan c.args.self.now.state c.args.line c.requires.line c.requires.phase
    c.requires.drawn c.requires.left c.requires.earlier
