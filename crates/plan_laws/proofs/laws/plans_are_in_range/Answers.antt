use Rattle.plan_laws.proofs.Stream.{planned_in_range, units_in_range}
use Rattle.plan_laws.proofs.laws.plans_are_in_range.Goals as goal

pub returns : goal.returns
returns c = record { stream = planned_in_range; units = units_in_range }
