use Rattle.progress_words.specs.Passes.{view}
use Rattle.sample_lines.specs.FactsOfFlights.{flight_meaning}
use Rattle.sample_lines.specs.FactsOfFlights.{flight_in}
use Rattle.taken_pictures.proofs.Seen.{line_below, sees_more, sound_on}
use Rattle.taken_pictures.proofs.seen_rows.see_line.Goals as goal

pub wait_line-requires-clause-line : goal.wait_line-requires-clause-line
wait_line-requires-clause-line g c =
    line_below c.args.board.now.flight c.args.layout.now c.requires.flight c.line_number-number.result
    c.line_number-number.ensures.inside

pub returns-clause-own : goal.returns-clause-own
returns-clause-own g c = c.wait_line.ensures.kept.0

pub returns-clause-kept : goal.returns-clause-kept
returns-clause-kept g c =
    sees_more (view c.args.pass.now) (view c.wait_line.new.pass) c.line_number-number.result
    c.wait_line.ensures.kept.1

pub returns-clause-known : goal.returns-clause-known
returns-clause-known g c =
    sound_on (flight_meaning (flight_in c.args.board.now.flight)) (view c.args.pass.now) (view c.wait_line.new.pass)
    c.line_number-number.result c.wait_line.ensures.kept.1 c.wait_line.ensures.sound c.requires.known
