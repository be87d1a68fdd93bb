use Rattle.progress_words.specs.Passes.{view}
use Rattle.board_core.specs.Needs.{filter_needs}
use Rattle.flight_waits.specs.SpecFlights.{flight_rows}
use Rattle.line_words.specs.Places.{number_at}
use Rattle.sample_lines.specs.FactsOfFlights.{flight_in}
use Rattle.filtered_rows.proofs.Views.{holds_still, seen_more, waited_both}
use Rattle.filtered_rows.proofs.waiting.wait_for_row.Goals as goal

pub returns-in-Ready-clause-ready : goal.returns-in-Ready-clause-ready
returns-in-Ready-clause-ready g c = λ r.
    let facts = c.args.board.now.flight in
    record {
      needs = seen_more facts c.args.layout.now (view c.wait_to_filter.new.pass) (view c.wait_beside.new.pass)
          (filter_needs (flight_rows (flight_in facts)) c.args.at.now.line) c.wait_beside.ensures.waited.more
          (c.wait_to_filter.ensures.ready c.in-Ready.is);
      built = λ e. c.wait_beside.ensures.ready r e;
    }

pub returns-in-Ready-clause-ended : goal.returns-in-Ready-clause-ended
returns-in-Ready-clause-ended g c = λ r holds.
    c.wait_beside.ensures.ended r
    (holds_still (view c.args.pass.now) (view c.wait_to_filter.new.pass) c.args.at.now holds
    c.wait_to_filter.ensures.waited)

pub returns-in-Ready-clause-waited : goal.returns-in-Ready-clause-waited
returns-in-Ready-clause-waited g c =
    waited_both (view c.args.pass.now) (view c.wait_to_filter.new.pass) (view c.wait_beside.new.pass)
    (number_at c.args.at.now) c.wait_to_filter.ensures.waited c.wait_beside.ensures.waited
