use Rattle.std.proofs.Common.{length}
use Rattle.row_above_laws.proofs.Expected.{above_is, across_is, first_is, lowest, mine, modes_are, second_is}
use Rattle.row_above_laws.proofs.Expected.{vectors_are}
use Rattle.row_above_laws.proofs.laws.expected_words_are_of_their_places.Goals as goal

pub returns-clause-vectors : goal.returns-clause-vectors
returns-clause-vectors c f k row x i j p range has across down =
    vectors_are f k p (range.plans k p has).sps has row x i j across down

pub returns-clause-modes : goal.returns-clause-modes
returns-clause-modes c f k row x i j p range has across down =
    modes_are f k p (range.plans k p has).sps has row x i j across down

pub returns-clause-first : goal.returns-clause-first
returns-clause-first c f k row x p range has = first_is f k p (range.plans k p has).sps has row x

pub returns-clause-second : goal.returns-clause-second
returns-clause-second c f k row x p range has = second_is f k p (range.plans k p has).sps has row x

pub returns-clause-across : goal.returns-clause-across
returns-clause-across c f k x p range has = across_is p (range.plans k p has).sps (length f.pictures) x

pub returns-clause-above : goal.returns-clause-above
returns-clause-above c f k row p range has some lower =
    above_is p (range.plans k p has).sps (length f.pictures) row some lower

pub returns-clause-mine : goal.returns-clause-mine
returns-clause-mine c f k row x i j p range has less across down =
    mine p (range.plans k p has).sps (length f.pictures) row x i j less across down

pub returns-clause-lowest : goal.returns-clause-lowest
returns-clause-lowest c f k row x p modes offsets range has some lower are =
    lowest f k p (range.plans k p has).sps has row x some lower modes offsets are
