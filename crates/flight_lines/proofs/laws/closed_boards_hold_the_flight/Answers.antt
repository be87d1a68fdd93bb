use Rattle.flight_lines.proofs.Closed.{closed_holds}
use Rattle.flight_lines.proofs.laws.closed_boards_hold_the_flight.Goals as goal

pub returns : goal.returns
returns c = λ f on words closed. closed_holds f on words closed
