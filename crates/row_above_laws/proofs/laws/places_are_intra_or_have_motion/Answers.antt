use Rattle.row_above_laws.proofs.Above.{intra_is, nothing_there}
use Rattle.row_above_laws.proofs.laws.places_are_intra_or_have_motion.Goals as goal

pub returns-clause-nothing : goal.returns-clause-nothing
returns-clause-nothing c f k row x i j p range has lower less out =
    nothing_there p (range.plans k p has).sps row x i j lower less out

pub returns-clause-intra : goal.returns-clause-intra
returns-clause-intra c f k address x y p known range has inside is mine =
    intra_is f range k p has address known inside is x y mine
