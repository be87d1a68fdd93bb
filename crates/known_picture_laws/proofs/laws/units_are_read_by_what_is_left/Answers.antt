use Rattle.known_picture_laws.proofs.Reading.{read_as}
use Rattle.known_picture_laws.proofs.laws.units_are_read_by_what_is_left.Goals as goal

pub returns : goal.returns
returns c = read_as
