use Rattle.std.proofs.Common.{◌≡◌, ℕ, ◌+◌, ◌∙◌, Some, slice_get, arith, ap, sym, subst}
use Rattle.hv_base.specs.declared.line.Line.{Line}
use Rattle.hv_base.specs.declared.line.Phase.TheVariants.{S}
use Rattle.sample_words.specs.declared.sizes.FlightSizes.{FlightSizes}
use Rattle.sample_words.specs.Words.{IsLine}
use Rattle.progress_words.specs.Passes.{view}
use Rattle.progress_words.specs.Rule.{IsNext}
use Rattle.progress_words.specs.Views.{AllSound, counting, seen_of}
use Rattle.flight_waits.specs.SpecFlights.{folded_at}
use Rattle.line_words.specs.Passes.{writing_run}
use Rattle.line_words.specs.Places.{HasSizes, number_at, words_at}
use Rattle.sample_lines.specs.FactsOfFlights.{board_flight, flight_meaning}
use Rattle.sample_lines.specs.FactsOfFlights.{flight_in}
use Rattle.sample_lines.proofs.FactsOfFlights.{board_sizes}
use Rattle.filtered_rows.specs.Phases.{IsAroundKnown, IsReady}
use Rattle.filtered_rows.proofs.Counted.{ready_next, unit_is}
use Rattle.filtered_rows.proofs.Formats.{is_format}
use Rattle.filtered_rows.proofs.Room.{rows_still}
use Rattle.filtered_rows.proofs.Seen.{rows_built}
use Rattle.filtered_rows.proofs.Sides.{offset_other, row_there}
use Rattle.filtered_rows.proofs.Views.{all_written, counted_written, next_written, seen_written}
use Rattle.filtered_rows.proofs.final_row.finish_row.Goals as goal

pub set_format-requires-clause-is : goal.set_format-requires-clause-is
set_format-requires-clause-is c =
    is_format c.args.board.now.flight c.args.layout.now c.requires.flight c.args.at.now.line.picture c.args.format.now
    (record { plan = c.args.plan.now; has = c.requires.picture; same = c.requires.format })

pub set_format-requires-clause-width : goal.set_format-requires-clause-width
set_format-requires-clause-width c = sym c.requires.memory.width

pub set_format-requires-clause-size : goal.set_format-requires-clause-size
set_format-requires-clause-size c = sym c.requires.memory.ctb_size

pub lay_around-requires-clause-picture : goal.lay_around-requires-clause-picture
lay_around-requires-clause-picture c =
    subst (λ (l : Line). slice_get (flight_in c.args.board.now.flight).pictures l.picture ≡ Some c.args.plan.now)
    (sym c.line-line.ensures.value) c.requires.picture

pub lay_around-requires-clause-line : goal.lay_around-requires-clause-line
lay_around-requires-clause-line c =
    let u = c.args.at.now in
    subst (IsLine c.args.layout.now) (sym c.line-line.ensures.value)
    (row_there c.args.layout.now u c.requires.place c.line-line.ensures.unit u.line.phase)

pub lay_around-requires-clause-phase : goal.lay_around-requires-clause-phase
lay_around-requires-clause-phase c =
    subst (λ (l : Line). l.phase ≡ S) (sym c.line-line.ensures.value) c.requires.phase

pub lay_around-requires-clause-ready : goal.lay_around-requires-clause-ready
lay_around-requires-clause-ready c =
    subst (λ (l : Line). IsReady c.args.board.now.flight c.args.layout.now (view c.args.pass.now) l)
    (sym c.line-line.ensures.value) c.requires.ready

pub lay_around-requires-clause-format : goal.lay_around-requires-clause-format
lay_around-requires-clause-format c = c.set_format.ensures.format ∙ c.requires.format

pub filter_components-requires-clause-next : goal.filter_components-requires-clause-next
filter_components-requires-clause-next c =
    let facts = c.args.board.now.flight in
    subst (λ v. IsNext (flight_meaning (flight_in facts)) v (number_at c.args.at.now)) (sym c.lay_around.ensures.same.1)
    (ready_next facts c.args.layout.now c.requires.flight c.args.at.now c.requires.place c.line-line.ensures.unit
    (offset_other c.args.at.now.line.phase c.requires.phase) (view c.args.pass.now) c.requires.holds c.requires.known
    c.requires.ready)

pub filter_components-requires-clause-unit : goal.filter_components-requires-clause-unit
filter_components-requires-clause-unit c =
    subst (λ v. seen_of v (number_at c.args.at.now) ≡ c.args.at.now.unit) (sym c.lay_around.ensures.same.1)
    c.requires.holds.next

pub filter_components-requires-clause-written : goal.filter_components-requires-clause-written
filter_components-requires-clause-written c = ap (λ v. v.written) c.lay_around.ensures.same.1 ∙ c.requires.written

pub filter_components-requires-clause-seen : goal.filter_components-requires-clause-seen
filter_components-requires-clause-seen c =
    let u = c.args.at.now in
    let s = c.args.layout.now in
    rows_still s (view c.args.pass.now) (view c.lay_around.new.pass) u.line
    (λ n. ap (λ v. seen_of v n) c.lay_around.ensures.same.1)
    (rows_built c.args.board.now.flight s c.requires.flight (view c.args.pass.now) u.line
    (row_there s u c.requires.place c.line-line.ensures.unit u.line.phase) c.requires.ready c.requires.phase)

pub filter_components-requires-clause-format : goal.filter_components-requires-clause-format
filter_components-requires-clause-format c =
    record { plan = c.args.plan.now; has = c.requires.picture; same = c.requires.format }

pub filter_components-requires-clause-places : goal.filter_components-requires-clause-places
filter_components-requires-clause-places c = c.lay_around.ensures.format ∙ c.set_format.ensures.format

pub filter_components-requires-clause-known : goal.filter_components-requires-clause-known
filter_components-requires-clause-known c =
    let f = flight_in c.args.board.now.flight in
    subst
    (λ (l : Line). IsAroundKnown (folded_at f l.picture).filters l.row c.lay_around.new.around)
    c.line-line.ensures.value c.lay_around.ensures.known

pub count_unit-requires-clause-flight : goal.count_unit-requires-clause-flight
count_unit-requires-clause-flight c =
    let facts = c.args.board.now.flight in
    subst (λ (s : FlightSizes). HasSizes (board_flight (flight_in facts)) s) (sym c.requires.place)
    (board_sizes facts c.args.layout.now c.requires.flight)

pub count_unit-requires-clause-next : goal.count_unit-requires-clause-next
count_unit-requires-clause-next c =
    let facts = c.args.board.now.flight in
    let n = number_at c.args.at.now in
    next_written (flight_meaning (flight_in facts)) (view c.args.pass.now) (view c.filter_components.new.pass) n
    (words_at c.args.at.now)
    (c.filter_components.ensures.1 ∙ ap (λ v. writing_run v (words_at c.args.at.now)) c.lay_around.ensures.same.1)
    (ready_next facts c.args.layout.now c.requires.flight c.args.at.now c.requires.place c.line-line.ensures.unit
    (offset_other c.args.at.now.line.phase c.requires.phase) (view c.args.pass.now) c.requires.holds c.requires.known
    c.requires.ready)

pub count_unit-requires-clause-unit : goal.count_unit-requires-clause-unit
count_unit-requires-clause-unit c =
    seen_written (view c.args.pass.now) (view c.filter_components.new.pass) (number_at c.args.at.now)
    (words_at c.args.at.now) c.args.at.now.unit
    (c.filter_components.ensures.1 ∙ ap (λ v. writing_run v (words_at c.args.at.now)) c.lay_around.ensures.same.1)
    c.requires.holds.next

pub count_unit-requires-clause-written : goal.count_unit-requires-clause-written
count_unit-requires-clause-written c =
    all_written (view c.args.pass.now) (view c.filter_components.new.pass) (words_at c.args.at.now)
    (c.filter_components.ensures.1 ∙ ap (λ v. writing_run v (words_at c.args.at.now)) c.lay_around.ensures.same.1)
    c.requires.written

pub returns-clause-counted : goal.returns-clause-counted
returns-clause-counted c =
    let u = c.args.at.now in
    let none =
    unit_is c.args.board.now.flight c.args.layout.now c.requires.flight u c.requires.place c.line-line.ensures.unit
    (offset_other u.line.phase c.requires.phase) in
    let one : u.unit + 1 ≡ 1 = omega (arith, none) in (
      c.count_unit.ensures.seen.0 ∙ (c.filter_components.ensures.0 ∙ c.lay_around.ensures.same.0),
      counted_written (view c.args.pass.now) (view c.filter_components.new.pass) (view c.count_unit.new.pass)
          (number_at u) (words_at u) 1
          (c.filter_components.ensures.1 ∙ ap (λ v. writing_run v (words_at u)) c.lay_around.ensures.same.1)
          (c.count_unit.ensures.seen.1
          ∙ ap (λ (n : ℕ). counting (view c.filter_components.new.pass) (number_at u) n) one),
    )

pub returns-clause-sound : goal.returns-clause-sound
returns-clause-sound c =
    let u = c.args.at.now in
    let none =
    unit_is c.args.board.now.flight c.args.layout.now c.requires.flight u c.requires.place c.line-line.ensures.unit
    (offset_other u.line.phase c.requires.phase) in
    let one : u.unit + 1 ≡ 1 = omega (arith, none) in
    subst (λ (n : ℕ). AllSound (flight_meaning (flight_in c.args.board.now.flight)) (number_at u) n) one
    c.count_unit.ensures.sound

pub returns-clause-memory : goal.returns-clause-memory
returns-clause-memory c =
    let same = c.lay_around.ensures.format ∙ c.set_format.ensures.format in
    record {
      width = ap (λ g. g.width) same;
      ctb_size = ap (λ g. g.ctb_size) same;
      lines = c.requires.memory.lines;
      copy = c.requires.memory.copy;
    }
