use Rattle.std.proofs.Common.{◌≡◌, ℕ, ◌<◌, sym, subst, ◌∙◌}
use Rattle.spec_loop_filters.specs.declared.format.FilterFormat.{FilterFormat}
use Rattle.spec_picture_filters.specs.Filtered.{filter_format}
use Rattle.row_filters.specs.Around.{place_in, unit_in}
use Rattle.row_filters.specs.Known.{ArePlaces, AreUnits}
use Rattle.progress_words.specs.Passes.{view}
use Rattle.flight_waits.specs.SpecFlights.{folded_at}
use Rattle.line_words.proofs.Words.{knows_as_much}
use Rattle.sample_lines.specs.FactsOfFlights.{flight_in}
use Rattle.filter_words.specs.Rows.{AreRowsSeen}
use Rattle.filtered_rows.proofs.Seen.{rows_seen}
use Rattle.filtered_rows.proofs.final_row.lay_around.Goals as goal

pub lay_row_places-requires-clause-seen : goal.lay_row_places-requires-clause-seen
lay_row_places-requires-clause-seen c =
    rows_seen c.args.board.now.flight c.args.layout.now c.requires.flight (view c.args.pass.now) c.args.line
    c.requires.line c.requires.ready c.requires.phase c.requires.known

pub lay_row_units-requires-clause-seen : goal.lay_row_units-requires-clause-seen
lay_row_units-requires-clause-seen c =
    subst (λ v. AreRowsSeen c.args.board.now.flight c.args.layout.now v c.args.line 1)
    (sym c.lay_row_places.ensures.same.1)
    (rows_seen c.args.board.now.flight c.args.layout.now c.requires.flight (view c.args.pass.now) c.args.line
    c.requires.line c.requires.ready c.requires.phase c.requires.known)

pub lay_row_units-requires-clause-format : goal.lay_row_units-requires-clause-format
lay_row_units-requires-clause-format c = c.lay_row_places.ensures.format ∙ c.requires.format

pub returns-clause-format : goal.returns-clause-format
returns-clause-format c = c.lay_row_units.ensures.format ∙ c.lay_row_places.ensures.format

pub returns-clause-known : goal.returns-clause-known
returns-clause-known c =
    let gathered = (folded_at (flight_in c.args.board.now.flight) c.args.line.picture).filters in
    let around = c.lay_row_units.new.around in
    let row = c.args.line.row in
    let same : around.format ≡ filter_format c.args.plan.now =
    c.lay_row_units.ensures.format ∙ (c.lay_row_places.ensures.format ∙ c.requires.format) in
    let places : ArePlaces (filter_format c.args.plan.now) row 2 gathered.places (place_in around) =
    λ i s column line of.
    c.lay_row_places.ensures.places i s column line of
    ∙ sym (c.lay_row_units.ensures.places c.lay_row_places.ensures.above i s) in
    subst
    (λ (g : FilterFormat). ArePlaces g row 2 gathered.places (place_in around)
    × ((n : ℕ) → n < 3 → AreUnits g n row gathered.units (unit_in around)))
    (sym same) (places, c.lay_row_units.ensures.units)

pub returns-clause-same : goal.returns-clause-same
returns-clause-same c =
    knows_as_much c.args.pass.now c.lay_row_places.new.pass c.lay_row_units.new.pass c.lay_row_places.ensures.same
    c.lay_row_units.ensures.same
