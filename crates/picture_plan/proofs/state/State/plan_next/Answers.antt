use Rattle.std.proofs.Common.{Err, refl}
use Rattle.hv_base.specs.declared.refusal.Stop.TheVariants as stop
use Rattle.spec_picture_plan.specs.Steps.{step}
use Rattle.picture_plan.proofs.state.State.plan_next.Goals as goal

pub returns-in-Fault-clause-value : goal.returns-in-Fault-clause-value
unfolding step
returns-in-Fault-clause-value c =
    rw c.in-Fault.is (c.close_then.ensures.value (λ t. Err (stop.Fault c.in-Fault.fault)) (λ t e. refl))

pub returns-in-Limit-clause-value : goal.returns-in-Limit-clause-value
unfolding step
returns-in-Limit-clause-value c =
    rw c.in-Limit.is (c.close_then-in-Limit.ensures.value (λ t. Err (stop.Limit c.in-Limit.limit)) (λ t e. refl))
