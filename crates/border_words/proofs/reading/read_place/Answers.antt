use Rattle.std.proofs.Common.{rules, ◌+◌, ◌*◌, ◌∙◌}
use Rattle.sample_words.specs.declared.unit_content.UnitContent.TheVariants.{Modes, Vectors}
use Rattle.line_words.specs.Places.{number_at}
use Rattle.line_words.proofs.Words.{knows_as_much}
use Rattle.sample_lines.specs.FactsOfFlights.{flight_in}
use Rattle.border_words.proofs.Passes.{stays_own, stays_seen}
use Rattle.border_words.proofs.Words.{first_at, first_fits, first_inside, offset_fits, row_fits, second_at}
use Rattle.border_words.proofs.Words.{second_fits, second_inside, word_is}
use Rattle.border_words.proofs.reading.read_place.Goals as goal

pub overflow_mul-offset : goal.overflow_mul-offset
overflow_mul-offset c =
    let few = row_fits c.args.at.now c.args.words.now c.requires.words c.args.row c.requires.row in
    search rules

pub overflow_add-offset : goal.overflow_add-offset
overflow_add-offset c =
    let few = offset_fits c.args.at.now c.args.words.now c.requires.words c.args.column c.args.row c.requires.column
    c.requires.row in
    search rules

pub overflow_add-first : goal.overflow_add-first
overflow_add-first c =
    let few = first_fits c.args.at.now c.args.words.now c.requires.words c.args.column c.args.row c.requires.column
    c.requires.row in
    search rules

pub overflow_add-second : goal.overflow_add-second
overflow_add-second c =
    let few = second_fits c.args.at.now c.args.words.now c.requires.words c.args.column c.args.row c.requires.column
    c.requires.row in
    search rules

pub read_word-vectors-requires-clause-inside : goal.read_word-vectors-requires-clause-inside
read_word-vectors-requires-clause-inside c =
    first_inside c.args.at.now c.args.words.now c.requires.words c.requires.phase c.args.column c.args.row
    c.requires.column c.requires.row

pub read_word-modes-requires-clause-inside : goal.read_word-modes-requires-clause-inside
read_word-modes-requires-clause-inside c =
    second_inside c.args.at.now c.args.words.now c.requires.words c.requires.phase c.args.column c.args.row
    c.requires.column c.requires.row

pub read_word-modes-requires-clause-own : goal.read_word-modes-requires-clause-own
read_word-modes-requires-clause-own c =
    stays_own c.args.pass.now c.read_word-vectors.new.pass c.read_word-vectors.ensures.same c.args.board.now
    c.requires.own

pub read_word-modes-requires-clause-seen : goal.read_word-modes-requires-clause-seen
read_word-modes-requires-clause-seen c =
    stays_seen c.args.pass.now c.read_word-vectors.new.pass c.read_word-vectors.ensures.same
    (number_at c.args.at.now) c.args.at.now.unit c.requires.seen

pub returns-clause-vectors : goal.returns-clause-vectors
returns-clause-vectors c =
    let words = c.args.words.now in
    c.read_word-vectors.ensures.value
    ∙ word_is (flight_in c.args.board.now.flight) c.args.at.now (Vectors c.args.column c.args.row)
    (words.vectors + (c.args.row * words.columns + c.args.column)) c.requires.phase
    (first_at c.args.at.now words c.requires.words c.args.column c.args.row)

pub returns-clause-modes : goal.returns-clause-modes
returns-clause-modes c =
    let words = c.args.words.now in
    c.read_word-modes.ensures.value
    ∙ word_is (flight_in c.args.board.now.flight) c.args.at.now (Modes c.args.column c.args.row)
    (words.modes + (c.args.row * words.columns + c.args.column)) c.requires.phase
    (second_at c.args.at.now words c.requires.words c.args.column c.args.row)

pub returns-clause-same : goal.returns-clause-same
returns-clause-same c =
    knows_as_much c.args.pass.now c.read_word-vectors.new.pass c.read_word-modes.new.pass
    c.read_word-vectors.ensures.same c.read_word-modes.ensures.same
