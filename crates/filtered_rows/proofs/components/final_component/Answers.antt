use Rattle.std.proofs.Common.{◌≡◌, ◌≤◌, sym, subst, length, rules}
use Rattle.hv_base.specs.declared.line.Line.{Line}
use Rattle.row_filters.specs.Around.{place_in, unit_in}
use Rattle.row_filters.specs.Lines.{count_of}
use Rattle.sample_words.specs.Words.{IsLine}
use Rattle.progress_words.specs.Passes.{view}
use Rattle.progress_words.specs.Rule.{IsNext}
use Rattle.progress_words.specs.Views.{seen_of}
use Rattle.line_words.specs.Places.{number_at}
use Rattle.sample_lines.specs.FactsOfFlights.{flight_meaning}
use Rattle.sample_lines.specs.FactsOfFlights.{flight_in}
use Rattle.filtered_rows.specs.Components.{AreRowsBuilt}
use Rattle.filtered_rows.proofs.Filtered.{final_row, read_bounded, read_then_written, row_inside}
use Rattle.filtered_rows.proofs.Formats.{is_format, sides_of}
use Rattle.filtered_rows.proofs.Sides.{row_there}
use Rattle.filtered_rows.proofs.components.final_component.Goals as goal

pub read_rows_around-requires-clause-line : goal.read_rows_around-requires-clause-line
read_rows_around-requires-clause-line c =
    let s = c.args.layout.now in
    let u = c.args.at.now in
    subst (IsLine s) (sym c.line-line.ensures.value)
    (row_there s u c.requires.place c.line-line.ensures.unit u.line.phase)

pub read_rows_around-requires-clause-seen : goal.read_rows_around-requires-clause-seen
read_rows_around-requires-clause-seen c =
    subst (λ (l : Line). AreRowsBuilt c.args.layout.now (view c.args.pass.now) l) (sym c.line-line.ensures.value)
    c.requires.seen

pub read_rows_around-requires-clause-component : goal.read_rows_around-requires-clause-component
read_rows_around-requires-clause-component c =
    let facts = c.args.board.now.flight in
    sides_of facts c.args.layout.now c.requires.flight c.args.at.now.line.picture c.args.places.now.format
    c.requires.format c.args.component.now c.requires.component

pub read_rows_around-requires-clause-room : goal.read_rows_around-requires-clause-room
read_rows_around-requires-clause-room c =
    subst (λ (l : Line). length c.args.lines.now ≡ count_of c.args.component.now l.row 4)
    (sym c.line-line.ensures.value) c.requires.room

pub final_lines-requires-clause-format : goal.final_lines-requires-clause-format
final_lines-requires-clause-format c =
    is_format c.args.board.now.flight c.args.layout.now c.requires.flight c.args.at.now.line.picture
    c.args.places.now.format c.requires.format

pub final_lines-requires-clause-row : goal.final_lines-requires-clause-row
final_lines-requires-clause-row c =
    row_inside c.args.board.now.flight c.args.layout.now c.requires.flight c.args.at.now c.requires.place
    c.line-line.ensures.unit c.args.component.now c.args.places.now.format c.requires.format c.requires.component
    c.line-line.result c.line-line.ensures.value

pub final_lines-requires-clause-samples : goal.final_lines-requires-clause-samples
final_lines-requires-clause-samples c =
    subst (λ (l : Line). length c.read_rows_around.new.out ≡ count_of c.args.component.now l.row 4)
    (sym c.line-line.ensures.value) (search rules)

pub final_lines-requires-clause-bounded : goal.final_lines-requires-clause-bounded
final_lines-requires-clause-bounded c =
    read_bounded c.args.board.now.flight c.args.layout.now c.requires.flight c.args.at.now c.requires.place
    c.line-line.ensures.unit c.args.component.now c.args.places.now.format c.requires.format c.requires.component
    c.line-line.result c.line-line.ensures.value c.read_rows_around.new.out c.read_rows_around.ensures.value
    (subst (λ (l : Line). length c.read_rows_around.new.out ≡ count_of c.args.component.now l.row 4)
    (sym c.line-line.ensures.value) (search rules))

pub final_lines-requires-clause-copy : goal.final_lines-requires-clause-copy
final_lines-requires-clause-copy c =
    subst (λ (l : Line). count_of c.args.component.now l.row 1 ≤ length c.args.copy.now)
    (sym c.line-line.ensures.value) c.requires.copy

pub write_row-requires-clause-next : goal.write_row-requires-clause-next
write_row-requires-clause-next c =
    let m = flight_meaning (flight_in c.args.board.now.flight) in
    subst (λ v. IsNext m v (number_at c.args.at.now)) (sym c.read_rows_around.ensures.same.1) c.requires.next

pub write_row-requires-clause-unit : goal.write_row-requires-clause-unit
write_row-requires-clause-unit c =
    subst (λ v. seen_of v (number_at c.args.at.now) ≡ c.args.at.now.unit) (sym c.read_rows_around.ensures.same.1)
    c.requires.unit

pub write_row-requires-clause-component : goal.write_row-requires-clause-component
write_row-requires-clause-component c =
    let facts = c.args.board.now.flight in
    sides_of facts c.args.layout.now c.requires.flight c.args.at.now.line.picture c.args.places.now.format
    c.requires.format c.args.component.now c.requires.component

pub write_row-requires-clause-value : goal.write_row-requires-clause-value
write_row-requires-clause-value c =
    final_row c.args.board.now.flight c.args.layout.now c.requires.flight c.args.at.now c.requires.place
    c.line-line.ensures.unit c.args.component.now c.args.places.now.format c.requires.format c.requires.component
    c.line-line.result c.line-line.ensures.value (place_in c.args.places.now) (unit_in c.args.places.now)
    c.read_rows_around.new.out c.final_lines.new.samples c.requires.phase c.requires.known c.requires.units
    c.read_rows_around.ensures.value c.final_lines.ensures

pub returns : goal.returns
returns c =
    read_then_written c.args.pass.now c.read_rows_around.new.pass c.write_row.new.pass _
    c.read_rows_around.ensures.same c.write_row.ensures
