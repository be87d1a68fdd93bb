use Rattle.flight_packing_laws.proofs.Holding.{holds}
use Rattle.flight_packing_laws.proofs.Packed.{packable, word_is}
use Rattle.flight_packing_laws.proofs.laws.built_units_hold_the_values_of_their_flight.Goals as goal

pub returns-clause-holds : goal.returns-clause-holds
returns-clause-holds c f k p known d range done = holds f range k p known d done

pub returns-clause-packable : goal.returns-clause-packable
returns-clause-packable c f k p known d range done = packable f range k p known d done

pub returns-clause-words : goal.returns-clause-words
returns-clause-words c f k p known d index word range done has = word_is f range k p known d done index word has
