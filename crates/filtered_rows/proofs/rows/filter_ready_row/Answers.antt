use Rattle.std.proofs.Common.{sym, subst}
use Rattle.sample_words.specs.declared.sizes.FlightSizes.{FlightSizes}
use Rattle.progress_words.specs.Passes.{view}
use Rattle.line_words.specs.Places.{HasSizes}
use Rattle.sample_lines.specs.FactsOfFlights.{board_flight}
use Rattle.sample_lines.specs.FactsOfFlights.{flight_in}
use Rattle.sample_lines.proofs.FactsOfFlights.{board_sizes}
use Rattle.filtered_rows.proofs.Counted.{ready_next}
use Rattle.filtered_rows.proofs.rows.filter_ready_row.Goals as goal

pub count_unit-requires-clause-flight : goal.count_unit-requires-clause-flight
count_unit-requires-clause-flight c =
    let facts = c.args.board.now.flight in
    subst (λ (s : FlightSizes). HasSizes (board_flight (flight_in facts)) s) (sym c.requires.place)
    (board_sizes facts c.args.layout.now c.requires.flight)

pub count_unit-requires-clause-next : goal.count_unit-requires-clause-next
count_unit-requires-clause-next c =
    ready_next c.args.board.now.flight c.args.layout.now c.requires.flight c.args.at.now c.requires.place
    c.line.ensures.unit c.requires.phase (view c.args.pass.now) c.requires.holds c.requires.known c.requires.ready
