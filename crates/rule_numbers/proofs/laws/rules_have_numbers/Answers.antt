use Rattle.rule_numbers.proofs.Ruled.{breach_again, breach_numbered, small_rule}
use Rattle.rule_numbers.proofs.laws.rules_have_numbers.Goals as goal

pub returns-clause-small : goal.returns-clause-small
returns-clause-small c = small_rule

pub returns-clause-found : goal.returns-clause-found
returns-clause-found c = breach_again

pub returns-clause-only : goal.returns-clause-only
returns-clause-only c = breach_numbered
