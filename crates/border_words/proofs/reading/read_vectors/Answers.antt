use Rattle.std.proofs.Common.{rules, ◌+◌, ◌*◌, ◌∙◌}
use Rattle.sample_words.specs.declared.unit_content.UnitContent.TheVariants.{Vectors}
use Rattle.sample_lines.specs.FactsOfFlights.{flight_in}
use Rattle.border_words.proofs.Words.{row_fits, vectors_at, vectors_fit, vectors_inside, word_is}
use Rattle.border_words.proofs.reading.read_vectors.Goals as goal

pub overflow_mul-first : goal.overflow_mul-first
overflow_mul-first c =
    let few = row_fits c.args.at.now c.args.words.now c.requires.words c.args.row c.requires.row in
    search rules

pub overflow_add-first : goal.overflow_add-first
overflow_add-first c =
    let few = vectors_fit c.args.at.now c.args.words.now c.requires.words c.args.row c.requires.row in
    search rules

pub read_first-requires-clause-few : goal.read_first-requires-clause-few
read_first-requires-clause-few c = c.requires.words.few_columns

pub read_first-requires-clause-inside : goal.read_first-requires-clause-inside
read_first-requires-clause-inside c =
    vectors_inside c.args.at.now c.args.words.now c.requires.words c.requires.phase c.args.row c.requires.row

pub returns-clause-value : goal.returns-clause-value
returns-clause-value c = λ i less.
    let words = c.args.words.now in
    c.read_first.ensures.value i less
    ∙ word_is (flight_in c.args.board.now.flight) c.args.at.now (Vectors i c.args.row)
    (words.vectors + c.args.row * words.columns + i) c.requires.phase
    (vectors_at c.args.at.now words c.requires.words i c.args.row)
