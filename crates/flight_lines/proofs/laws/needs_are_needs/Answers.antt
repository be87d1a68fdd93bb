use Rattle.flight_lines.proofs.Needed.{read_met, unit_met}
use Rattle.flight_lines.proofs.laws.needs_are_needs.Goals as goal

pub returns-clause-unit : goal.returns-clause-unit
returns-clause-unit c = λ f sized state count same l x line. unit_met f sized state count same l x line

pub returns-clause-read : goal.returns-clause-read
returns-clause-read c = λ f sized state count same l x line. read_met f sized state count same l x line
