use Rattle.row_above_laws.proofs.Above.{bottom_words, place_words}
use Rattle.row_above_laws.proofs.laws.words_above_are_of_their_units.Goals as goal

pub returns-clause-bottom : goal.returns-clause-bottom
returns-clause-bottom c f k row x p modes offsets range has some lower less are =
    bottom_words f range k p has row x some lower less modes offsets are

pub returns-clause-place : goal.returns-clause-place
returns-clause-place c f k address x y first second p known range has inside is mine vectors modes =
    place_words f range k p has address known inside is x y mine first second vectors modes
