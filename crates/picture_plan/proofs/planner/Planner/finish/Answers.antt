use Rattle.picture_plan.proofs.Taking.{taken-end}
use Rattle.picture_plan.proofs.planner.Planner.finish.Goals as goal

pub returns-clause-value : goal.returns-clause-value
returns-clause-value c =
    rw (← c.self.view_is, c.cut-pending.ensures.left, c.given.ensures.last)
    (taken-end c.self.inside.stopped c.self.inside.state _ c.in_ok-ending.ending.step c.in_ok-ending.ending.last
    c.cut-pending.result c.given.result.flights (cc)
    c.in_ok-ending.ensures.value c.in_ok-ending.ensures.last c.cut-pending.ensures.flight c.given.ensures.flights)
