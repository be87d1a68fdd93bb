use Rattle.flight_facts.proofs.Laid.{board_sizes, each_there, picture_sizes, word_is}
use Rattle.flight_facts.proofs.laws.pictures_have_the_sizes_of_their_flight.Goals as goal

pub returns-clause-board : goal.returns-clause-board
returns-clause-board c = board_sizes

pub returns-clause-each : goal.returns-clause-each
returns-clause-each c = each_there

pub returns-clause-picture : goal.returns-clause-picture
returns-clause-picture c = picture_sizes

pub returns-clause-expected : goal.returns-clause-expected
returns-clause-expected c = word_is
