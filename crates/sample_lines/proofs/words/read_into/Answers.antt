use Rattle.std.proofs.Common.{ℕ, ◌/◌, ◌%◌, ◌∙◌, ap, sym, subst, length}
use Rattle.sample_words.specs.declared.sizes.FlightSizes.{FlightSizes}
use Rattle.sample_words.specs.Packing.{lane}
use Rattle.sample_words.specs.Sizes.{samples_a_word}
use Rattle.sample_words.specs.Values.{sample_bits}
use Rattle.line_words.specs.Places.{HasSizes}
use Rattle.flight_facts.specs.Boards.{board_flight}
use Rattle.flight_facts.specs.Facts.{flight_in}
use Rattle.flight_facts.proofs.Laid.{board_sizes}
use Rattle.sample_lines.proofs.LineWords.{word_in_room}
use Rattle.sample_lines.proofs.words.read_into.Goals as goal

pub read_run-requires-clause-flight : goal.read_run-requires-clause-flight
read_run-requires-clause-flight c =
    let facts = c.args.board.now.flight in
    subst (λ (s : FlightSizes). HasSizes (board_flight (flight_in facts)) s) (sym c.requires.place)
    (board_sizes facts c.args.layout.now c.requires.flight)

pub returns-clause-value : goal.returns-clause-value
returns-clause-value c = λ i below.
    let s = c.args.layout.now in
    let n = samples_a_word s in
    let inside = word_in_room s.deep (length c.args.out.now) (length c.args.words.now) i c.requires.room below in
    c.unpack_line.ensures.value i below
    ∙ ap (λ (w : ℕ). lane (sample_bits s) w (i % n)) (c.read_run.ensures.value (i / n) inside)
