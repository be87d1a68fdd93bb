use Rattle.line_words.proofs.FlightLinesLemmas.{laid}
use Rattle.flight_facts.specs.Boards.{board_flight}
use Rattle.flight_facts.proofs.Sized.{flight_sized}
use Rattle.flight_facts.proofs.Told.{on_board}
use Rattle.flight_facts.proofs.laws.flights_lie_on_boards.Goals as goal

pub returns-clause-board : goal.returns-clause-board
returns-clause-board c = on_board

pub returns-clause-laid : goal.returns-clause-laid
returns-clause-laid c = λ f planned. laid (board_flight f) (flight_sized f planned)
