use Rattle.filter_words.proofs.Back.{flight_place, flight_segment, flight_unit}
use Rattle.filter_words.proofs.laws.filter_places_come_back.Goals as goal

pub returns-clause-places : goal.returns-clause-places
returns-clause-places c f k p address known x y range has inside is mine =
    flight_place f range k p has address known inside is x y mine

pub returns-clause-segment : goal.returns-clause-segment
returns-clause-segment c f k p address known x y range has inside is mine =
    flight_segment f range k p has address known inside is x y mine

pub returns-clause-units : goal.returns-clause-units
returns-clause-units c f k p row column component known range has lower less few is =
    flight_unit f range k p has row column component known lower less few is
