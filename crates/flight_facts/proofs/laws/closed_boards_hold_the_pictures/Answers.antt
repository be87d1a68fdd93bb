use Rattle.flight_facts.proofs.Holding.{closed_pictures}
use Rattle.flight_facts.proofs.laws.closed_boards_hold_the_pictures.Goals as goal

pub returns : goal.returns
returns c = closed_pictures
