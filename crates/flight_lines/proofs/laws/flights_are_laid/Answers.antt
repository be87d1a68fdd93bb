use Rattle.flight_lines.proofs.Laid.{laid}
use Rattle.flight_lines.proofs.laws.flights_are_laid.Goals as goal

pub returns : goal.returns
returns c = laid
