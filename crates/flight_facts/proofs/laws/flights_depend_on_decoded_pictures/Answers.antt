use Rattle.flight_facts.proofs.Buffers.{bases_again, board_same, folded_same}
use Rattle.flight_facts.proofs.laws.flights_depend_on_decoded_pictures.Goals as goal

pub returns-clause-board : goal.returns-clause-board
returns-clause-board c = board_same

pub returns-clause-pictures : goal.returns-clause-pictures
returns-clause-pictures c = λ pictures b d k same. folded_same pictures b d same k

pub returns-clause-bases : goal.returns-clause-bases
returns-clause-bases c = bases_again
