use Rattle.std.proofs.Common.{refl}
use Rattle.board_core.proofs.Progress.{ended_done, left_not_ended}
use Rattle.board_core.proofs.core_state.Core.some_ready.Goals as goal

pub returns-in-Some-clause-none : goal.returns-in-Some-clause-none
returns-in-Some-clause-none c =
    let plan = c.args.self.now.plan in
    let s = c.args.self.now.state in (
      λ e. absurd (cc),
      λ ended. absurd (left_not_ended plan s c.in-Some.line c.in-Some.ensures.line c.in-Some.ensures.left ended),
    )

pub returns-in-None-clause-none : goal.returns-in-None-clause-none
returns-in-None-clause-none c =
    let plan = c.args.self.now.plan in
    let s = c.args.self.now.state in
    (λ e. ended_done plan s (c.in-None.ensures.none refl), λ ended. refl)
