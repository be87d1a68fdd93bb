use Rattle.std.proofs.Common.{◌∙◌, ap}
use Rattle.picture_plan.proofs.Closings.{closing-changed}
use Rattle.picture_plan.specs.Taken.{Left, changed_behind}
use Rattle.picture_plan.proofs.state.State.close_by.Goals as goal

pub returns-clause-value : goal.returns-clause-value
returns-clause-value c = λ f same.
    c.change_behind.ensures ∙ ap (λ (l : Left). changed_behind l c.args.change) c.in_ok-step.ensures.value
    ∙ closing-changed c.args.self.now c.args.change f same
