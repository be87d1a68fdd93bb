use Rattle.flight_value_laws.proofs.Values.{values_fit}
use Rattle.flight_value_laws.proofs.laws.values_fit_their_words.Goals as goal

pub returns : goal.returns
returns c f k p range has = values_fit f range k p has
