use Rattle.line_words.proofs.FlightLinesLemmas.{reached_shows}
use Rattle.flight_facts.specs.Boards.{board_flight}
use Rattle.flight_facts.proofs.Told.{on_board}
use Rattle.flight_facts.proofs.laws.boards_show_the_flight.Goals as goal

pub returns : goal.returns
returns c = λ f planned words reached. reached_shows (board_flight f) (on_board f planned) words reached
