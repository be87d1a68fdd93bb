use Rattle.flight_unit_laws.proofs.Names.{all_named}
use Rattle.flight_unit_laws.proofs.laws.names_stand_for_the_pictures_of_the_buffer.Goals as goal

pub returns : goal.returns
returns c = all_named
