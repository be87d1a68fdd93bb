use Rattle.std.proofs.Common.{length, sym, ◌∙◌}
use Rattle.flight_facts.specs.Facts.{flight_in}
use Rattle.flight_facts.proofs.Laid.{picture_sizes}
use Rattle.filter_words.specs.Units.{filters_at}
use Rattle.filter_words.proofs.Rows.{same_places, three_rows}
use Rattle.filter_words.proofs.Words.{flight_sized}
use Rattle.filter_words.proofs.row_offsets.lay_row_units.Goals as goal

pub returns-clause-format : goal.returns-clause-format
returns-clause-format c = c.lay_three_rows.ensures.units.format ∙ c.begin.ensures.format

pub returns-clause-above : goal.returns-clause-above
returns-clause-above c = c.lay_three_rows.ensures.units.above ∙ c.begin.ensures.above

pub returns-clause-places : goal.returns-clause-places
returns-clause-places c = λ above x y.
    c.lay_three_rows.ensures.units.places x y
    ∙ same_places c.args.around.now c.begin.new.self c.begin.ensures.format (c.begin.ensures.above ∙ sym above)
    c.begin.ensures.places x y

pub returns-clause-units : goal.returns-clause-units
returns-clause-units c component few =
    let facts = c.args.board.now.flight in
    let s = c.args.layout.now in
    three_rows s c.args.plan.now (length (flight_in facts).pictures) (flight_sized facts s c.requires.flight)
    (picture_sizes facts s c.args.line.picture c.args.plan.now c.requires.flight c.requires.picture) c.args.line.row
    (filters_at facts c.args.line).units c.begin.new.self c.lay_three_rows.new.around
    c.begin.ensures.above c.lay_three_rows.ensures.units component few
