use Rattle.made_decoding_laws.proofs.Turns.{decoded_by_drawn, in_turn}
use Rattle.made_decoding_laws.proofs.laws.made_pictures_are_decoded_in_turn.Goals as goal

pub returns-clause-each : goal.returns-clause-each
returns-clause-each c = decoded_by_drawn

pub returns-clause-turn : goal.returns-clause-turn
returns-clause-turn c = in_turn
