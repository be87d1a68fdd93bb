use Rattle.breach_laws.proofs.Reading.{reading_breaks, step_breaks}
use Rattle.breach_laws.proofs.laws.slice_data_break_few_rules.Goals as goal

pub returns-clause-step : goal.returns-clause-step
returns-clause-step c = λ at address between e is. step_breaks at address between e is

pub returns-clause-read : goal.returns-clause-read
returns-clause-read c = λ p entries address e is. reading_breaks p entries address e is
