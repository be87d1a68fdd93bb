use Rattle.std.specs.Prelude.{◌+◌, ◌-◌, ◌*◌}
use Rattle.header_types.specs.SequenceParameterSets.{width_in_ctbs}
use Rattle.known_picture_laws.specs.SpecFlights.{values_in}
use Rattle.flight_value_laws.proofs.Values.{words_are}
use Rattle.flight_value_laws.proofs.laws.contexts_come_back.Goals as goal

pub returns-clause-stored : goal.returns-clause-stored
unfolding values_in
returns-clause-stored c f k row p sps = words_are p sps (row * width_in_ctbs p.sps + 1)

pub returns-clause-carried : goal.returns-clause-carried
unfolding values_in
returns-clause-carried c f k row p sps = words_are p sps (row * width_in_ctbs p.sps + (width_in_ctbs p.sps - 1))
