use Rattle.flight_lines.proofs.Meant.{lawful}
use Rattle.flight_lines.proofs.laws.rules_are_lawful.Goals as goal

pub returns : goal.returns
returns c = lawful
