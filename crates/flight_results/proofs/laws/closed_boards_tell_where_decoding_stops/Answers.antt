use Rattle.flight_results.proofs.Held.{closed_tells}
use Rattle.flight_results.proofs.laws.closed_boards_tell_where_decoding_stops.Goals as goal

pub returns : goal.returns
returns c = closed_tells
