use Rattle.std.proofs.Common.{◌≡◌, ◌+◌, ◌*◌, ◌∙◌, ap, arith}
use Rattle.sample_words.specs.Sizes.{samples_a_word}
use Rattle.sample_lines.specs.FactsOfFlights.{flight_in}
use Rattle.sample_lines.specs.Lines.{sample_of}
use Rattle.border_words.proofs.lowest_lines.read_from_left.Goals as goal

pub read_samples-requires-clause-inside : goal.read_samples-requires-clause-inside
read_samples-requires-clause-inside c =
    let none : samples_a_word c.args.layout.now * 0 ≡ 0 = grind arith in
    let inside = c.requires.inside in
    omega (arith, none, inside)

pub returns-clause-value : goal.returns-clause-value
returns-clause-value c = λ k less.
    let same : samples_a_word c.args.layout.now * 0 + k ≡ k = grind arith in
    c.read_samples.ensures.value k less
    ∙ ap (λ x. sample_of (flight_in c.args.board.now.flight) c.args.at.now c.args.c x c.args.line) same
