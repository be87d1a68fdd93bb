use Rattle.std.proofs.Common.{ℕ, ◌∙◌, arith, subst, sym}
use Rattle.sample_words.specs.declared.sizes.FlightSizes.{FlightSizes}
use Rattle.progress_words.specs.Passes.{Knows, view}
use Rattle.line_words.specs.Passes.{writing_run}
use Rattle.line_words.specs.Places.{HasSizes}
use Rattle.flight_facts.specs.Boards.{board_flight}
use Rattle.flight_facts.specs.Facts.{flight_in}
use Rattle.flight_facts.proofs.Laid.{board_sizes}
use Rattle.sample_lines.proofs.packing.write_from.Goals as goal

pub write_run-requires-clause-flight : goal.write_run-requires-clause-flight
write_run-requires-clause-flight c =
    let facts = c.args.board.now.flight in
    subst (λ (s : FlightSizes). HasSizes (board_flight (flight_in facts)) s) (sym c.requires.place)
    (board_sizes facts c.args.layout.now c.requires.flight)

pub write_run-requires-clause-value : goal.write_run-requires-clause-value
write_run-requires-clause-value c = λ k below.
    let count = c.pack_line.ensures.count in
    c.pack_line.ensures.value k (omega (arith, below, count)) ∙ c.requires.value k (omega (arith, below, count))

pub returns : goal.returns
returns c =
    subst
    (λ (n : ℕ). Knows c.args.pass.now c.write_run.new.pass (writing_run (view c.args.pass.now) n))
    c.pack_line.ensures.count c.write_run.ensures
