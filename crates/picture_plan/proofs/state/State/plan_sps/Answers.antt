use Rattle.spec_picture_plan.specs.SpecParameterSets.{sequence_parameter_set_of}
use Rattle.spec_picture_plan.specs.Steps.{behind_read, put_sps}
use Rattle.picture_plan.proofs.state.State.plan_sps.Goals as goal

pub returns-clause-value : goal.returns-clause-value
returns-clause-value c =
    c.close_then.ensures.value
    (λ t. behind_read c.args.nal.now.index (sequence_parameter_set_of c.args.nal.now.rbsp) (put_sps t))
    (λ t e. c.in_ok-change.ensures.value t)
