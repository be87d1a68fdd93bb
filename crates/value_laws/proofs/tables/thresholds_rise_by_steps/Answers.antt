use Rattle.std.proofs.Common.{refl}
use Rattle.value_laws.specs.Tables.{beta_by_rule, repeated, tc_steps}
use Rattle.value_laws.proofs.tables.thresholds_rise_by_steps.Goals as goal

pub returns-clause-beta : goal.returns-clause-beta
unfolding beta_by_rule repeated tc_steps
returns-clause-beta c = refl

pub returns-clause-tc : goal.returns-clause-tc
unfolding beta_by_rule repeated tc_steps
returns-clause-tc c = refl
