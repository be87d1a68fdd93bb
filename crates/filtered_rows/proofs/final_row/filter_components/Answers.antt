use Rattle.std.proofs.Common.{◌≡◌, ℕ, ◌+◌, ◌<◌, ◌≤◌, ◌∙◌, arith, ap, sym, subst, length, rules}
use Rattle.std.proofs.lemmas.List.{length-take-le}
use Rattle.hv_base.specs.declared.line.Line.{Line}
use Rattle.spec_loop_filters.specs.declared.format.FilterFormat.{FilterFormat}
use Rattle.loop_filters.specs.Formats.{IsComponent}
use Rattle.row_filters.specs.Lines.{count_of}
use Rattle.sample_words.specs.Contents.{component_words, components_before}
use Rattle.sample_words.specs.Sizes.{rows}
use Rattle.progress_words.specs.Passes.{Knows, view}
use Rattle.progress_words.specs.Views.{seen_of}
use Rattle.line_words.specs.Passes.{writing_run}
use Rattle.line_words.specs.Places.{number_at, words_at}
use Rattle.sample_lines.specs.FactsOfFlights.{flight_meaning}
use Rattle.sample_lines.specs.FactsOfFlights.{flight_in}
use Rattle.sample_lines.specs.Lines.{luma_height, luma_width}
use Rattle.sample_lines.proofs.WrittenWords.{component_next, components_all, knows_more}
use Rattle.filtered_rows.specs.Components.{IsFormatAt}
use Rattle.filtered_rows.proofs.Formats.{is_format, sides_of}
use Rattle.filtered_rows.proofs.Room.{copy_room, room_of, rows_still}
use Rattle.filtered_rows.proofs.Sides.{row_there}
use Rattle.filtered_rows.proofs.Views.{next_written, seen_written}
use Rattle.filtered_rows.proofs.final_row.filter_components.Goals as goal

pub component_of-component-requires-clause-format : goal.component_of-component-requires-clause-format
component_of-component-requires-clause-format c =
    is_format c.args.board.now.flight c.args.layout.now c.requires.flight c.args.at.now.line.picture c.args.format.now
    c.requires.format

pub count_of-count-requires-clause-component : goal.count_of-count-requires-clause-component
count_of-count-requires-clause-component c =
    sides_of c.args.board.now.flight c.args.layout.now c.requires.flight c.args.at.now.line.picture c.args.format.now
    c.requires.format c.component_of-component.result c.component_of-component.ensures.component

pub count_of-count-requires-clause-row : goal.count_of-count-requires-clause-row
count_of-count-requires-clause-row c =
    let u = c.args.at.now in
    let there = row_there c.args.layout.now u c.requires.place c.line-line.ensures.unit u.line.phase in
    let row = ap (λ (m : Line). m.row) c.line-line.ensures.value in
    subst (λ (n : ℕ). n < rows c.args.layout.now) (sym row) there.row

pub slice_bounds-final_component-end : goal.slice_bounds-final_component-end
slice_bounds-final_component-end c =
    let same = c.loop-c.invariant.lines in
    let all = c.requires.lines in
    let inside : c.count_of-count.result ≤ length c.loop-c.lines =
    room_of c.args.format.now c.component_of-component.result c.component_of-component.ensures.component
    c.count_of-count.result 4 72 (length c.loop-c.lines) c.count_of-count.ensures.few
    (omega arith) (omega (arith, same, all)) in
    inside

pub slice_bounds-final_component-end-in-loop-c : goal.slice_bounds-final_component-end-in-loop-c
slice_bounds-final_component-end-in-loop-c c =
    let same = c.loop-c.invariant.lines in
    let all = c.requires.lines in
    let inside : c.count_of-count.result ≤ length c.loop-c.lines =
    room_of c.args.format.now c.component_of-component.result c.component_of-component.ensures.component
    c.count_of-count.result 4 72 (length c.loop-c.lines) c.count_of-count.ensures.few
    (omega arith) (omega (arith, same, all)) in
    sym (length-take-le c.count_of-count.result c.loop-c.lines inside)

pub final_component-requires-clause-copy : goal.final_component-requires-clause-copy
final_component-requires-clause-copy c =
    let same = c.loop-c.invariant.copy in
    let all = c.requires.copy in
    copy_room c.args.format.now c.component_of-component.result c.component_of-component.ensures.component
    c.args.at.now.line.row (length c.loop-c.copy) (omega (arith, same, all))

pub final_component-requires-clause-next : goal.final_component-requires-clause-next
final_component-requires-clause-next c =
    next_written (flight_meaning (flight_in c.args.board.now.flight)) (view c.args.pass.now) (view c.loop-c.pass)
    (number_at c.args.at.now) _ c.loop-c.invariant.knows.1 c.requires.next

pub final_component-requires-clause-unit : goal.final_component-requires-clause-unit
final_component-requires-clause-unit c =
    seen_written (view c.args.pass.now) (view c.loop-c.pass) (number_at c.args.at.now) _ c.args.at.now.unit
    c.loop-c.invariant.knows.1 c.requires.unit

pub final_component-requires-clause-written : goal.final_component-requires-clause-written
final_component-requires-clause-written c =
    let s = c.args.layout.now in
    let u = c.args.at.now in
    let now = ap (λ v. v.written) c.loop-c.invariant.knows.1 in
    let none = c.requires.written in
    let which = ap (λ (n : ℕ). components_before s (luma_width u) (luma_height u) n)
    c.component_of-component.ensures.c in
    omega (arith, now, none, which)

pub final_component-requires-clause-seen : goal.final_component-requires-clause-seen
final_component-requires-clause-seen c =
    rows_still c.args.layout.now (view c.args.pass.now) (view c.loop-c.pass) c.args.at.now.line
    (λ n. ap (λ v. seen_of v n) c.loop-c.invariant.knows.1) c.requires.seen

pub final_component-requires-clause-format : goal.final_component-requires-clause-format
final_component-requires-clause-format c =
    subst (λ (g : FilterFormat). IsFormatAt (flight_in c.args.board.now.flight) c.args.at.now.line.picture g)
    (sym c.requires.places) c.requires.format

pub final_component-requires-clause-component : goal.final_component-requires-clause-component
final_component-requires-clause-component c =
    subst (λ (g : FilterFormat). IsComponent g c.component_of-component.result) (sym c.requires.places)
    c.component_of-component.ensures.component

pub final_component-requires-clause-known : goal.final_component-requires-clause-known
final_component-requires-clause-known c = c.requires.known.0

pub final_component-requires-clause-units : goal.final_component-requires-clause-units
final_component-requires-clause-units c =
    c.requires.known.1 c.component_of-component.result.c c.component_of-component.ensures.component.c

pub final_component-requires-clause-room : goal.final_component-requires-clause-room
final_component-requires-clause-room c =
    let u = c.args.at.now in
    let k = c.component_of-component.result in
    let row = ap (λ (m : Line). m.row) c.line-line.ensures.value in
    let is : c.count_of-count.result ≡ count_of k u.line.row 4 =
    c.count_of-count.ensures.value ∙ ap (λ (n : ℕ). count_of k n 4) row in
    let same = c.loop-c.invariant.lines in
    let all = c.requires.lines in
    let inside : c.count_of-count.result ≤ length c.loop-c.lines =
    room_of c.args.format.now c.component_of-component.result c.component_of-component.ensures.component
    c.count_of-count.result 4 72 (length c.loop-c.lines) c.count_of-count.ensures.few
    (omega arith) (omega (arith, same, all)) in
    length-take-le c.count_of-count.result c.loop-c.lines inside ∙ is

pub loop-c-preserved : goal.loop-c-preserved
loop-c-preserved c =
    let s = c.args.layout.now in
    let u = c.args.at.now in
    let n : ℕ = c.loop-c.c in
    let which = c.component_of-component.ensures.c in
    let words = ap (λ (m : ℕ). component_words s (luma_width u) (luma_height u) m) which in
    let next = component_next s (luma_width u) (luma_height u) n (search rules) in
    record {
      knows = knows_more c.args.pass.now c.loop-c.pass c.final_component.new.pass
          (components_before s (luma_width u) (luma_height u) n) _
          (components_before s (luma_width u) (luma_height u) (n + 1)) c.loop-c.invariant.knows
          c.final_component.ensures (omega (arith, next, words));
      lines = search rules;
      copy = search rules;
    }

pub returns : goal.returns
returns c =
    let u = c.args.at.now in
    let s = c.args.layout.now in
    let end : c.loop-c.c ≡ 3 = search rules in
    let all : components_before s (luma_width u) (luma_height u) c.loop-c.c ≡ words_at u =
    ap (λ (n : ℕ). components_before s (luma_width u) (luma_height u) n) end
    ∙ (ap (λ t. components_before t (luma_width u) (luma_height u) 3) (sym c.requires.place)
    ∙ components_all u c.requires.phase) in
    subst (λ (n : ℕ). Knows c.args.pass.now c.loop-c.pass (writing_run (view c.args.pass.now) n)) all
    c.loop-c.invariant.knows
