use Rattle.std.proofs.Common.{refl}
use Rattle.known_picture_laws.specs.SpecFlights.{values_in}
use Rattle.flight_value_laws.proofs.Sides.{side_is, top_is}
use Rattle.flight_value_laws.proofs.laws.sides_come_back.Goals as goal

pub returns-clause-places : goal.returns-clause-places
returns-clause-places c p units row x i j inside across down = side_is p units row x inside i j across down

pub returns-clause-offsets : goal.returns-clause-offsets
unfolding values_in
returns-clause-offsets c p units row x = refl

pub returns-clause-top : goal.returns-clause-top
returns-clause-top c p units row x edge inside some sao places = top_is p units row x inside edge some sao places
