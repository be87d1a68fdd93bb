use Rattle.std.proofs.Common.{rules, ◌+◌, ◌∙◌, arith}
use Rattle.sample_words.specs.declared.unit_content.UnitContent.TheVariants.{Offsets}
use Rattle.sample_lines.specs.FactsOfFlights.{flight_in}
use Rattle.border_words.proofs.Words.{offsets_at, offsets_inside, word_is}
use Rattle.border_words.proofs.reading.read_offsets.Goals as goal

pub read_words-requires-clause-inside : goal.read_words-requires-clause-inside
read_words-requires-clause-inside c =
    let inside = offsets_inside c.args.at.now c.args.words.now c.requires.words c.requires.phase in
    search (rules, arith)

pub returns-clause-value : goal.returns-clause-value
returns-clause-value c = λ k less.
    c.read_words.ensures.value k (search (rules, arith))
    ∙ word_is (flight_in c.args.board.now.flight) c.args.at.now (Offsets k) (c.args.words.now.offsets + k)
    c.requires.phase (offsets_at c.args.at.now c.args.words.now c.requires.words k)
