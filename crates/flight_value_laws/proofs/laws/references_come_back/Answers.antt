use Rattle.flight_value_laws.proofs.Kept.{flight_beside, flight_comes_back}
use Rattle.flight_value_laws.proofs.laws.references_come_back.Goals as goal

pub returns-clause-kept : goal.returns-clause-kept
returns-clause-kept c f k p address known x y range has inside is mine =
    flight_comes_back f range k p has address known inside is x y mine

pub returns-clause-beside : goal.returns-clause-beside
returns-clause-beside c f k p x y range has = flight_beside f range k p has x y
