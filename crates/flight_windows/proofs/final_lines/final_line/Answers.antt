use Rattle.std.proofs.Common.{◌≡◌, ◌+◌, ◌*◌, ◌<◌, ◌≤◌, ℕ, true, false, pos, ◌+ℤ◌, sym, ◌∙◌, subst}
use Rattle.progress_words.specs.Passes.{view}
use Rattle.sample_words.specs.Contents.{component_side}
use Rattle.sample_words.specs.Sizes.{height_of, samples_a_word}
use Rattle.spec_inter_prediction.specs.Taps.{clamped}
use Rattle.flight_windows.specs.Lines.{final_unit}
use Rattle.flight_windows.specs.Seen.{is_seen}
use Rattle.flight_windows.proofs.Samples.{read_sample, unseen_sample}
use Rattle.flight_windows.proofs.Units.{final_is, none_final, unit_of_row}
use Rattle.flight_windows.proofs.final_lines.final_line.Goals as goal

pub unit_line-requires-clause-sizes : goal.unit_line-requires-clause-sizes
unit_line-requires-clause-sizes c =
    let rows = c.args.rows.now in
    (unit_of_row rows.layout (view c.args.pass.now) rows.seen.now c.requires.sees.rows c.args.row.now c.in-Some.at
    c.requires.row c.in-Some.is).sizes

pub unit_line-requires-clause-seen : goal.unit_line-requires-clause-seen
unit_line-requires-clause-seen c =
    let rows = c.args.rows.now in
    (unit_of_row rows.layout (view c.args.pass.now) rows.seen.now c.requires.sees.rows c.args.row.now c.in-Some.at
    c.requires.row c.in-Some.is).seen

pub unit_line-requires-clause-line : goal.unit_line-requires-clause-line
unit_line-requires-clause-line c =
    let rows = c.args.rows.now in
    let unit = unit_of_row rows.layout (view c.args.pass.now) rows.seen.now c.requires.sees.rows c.args.row.now
    c.in-Some.at c.requires.row c.in-Some.is in
    let inside = subst (λ r. c.args.place.line < component_side c.args.c (height_of rows.layout r))
    (sym c.requires.here) c.requires.place.inside in
    subst (λ n. c.args.place.line < n) (sym (unit.height c.args.c)) inside

pub unit_line-requires-clause-inside : goal.unit_line-requires-clause-inside
unit_line-requires-clause-inside c =
    let rows = c.args.rows.now in
    let unit = unit_of_row rows.layout (view c.args.pass.now) rows.seen.now c.requires.sees.rows c.args.row.now
    c.in-Some.at c.requires.row c.in-Some.is in
    subst (λ n. samples_a_word rows.layout * c.args.span.word + c.args.span.count ≤ n) (sym (unit.width c.args.c))
    c.requires.span.inside

pub returns-in-Some-clause-value : goal.returns-in-Some-clause-value
returns-in-Some-clause-value c = λ format same k lt.
    let rows = c.args.rows.now in
    let row = c.args.row.now in
    let place = c.args.place in
    let span = c.args.span in
    let told = final_is rows.layout rows.seen.now row c.in-Some.at c.requires.row c.in-Some.is in
    let there = subst
    (λ r. (is_seen rows.seen.now row.picture r ≡ true) × (c.in-Some.at ≡ final_unit rows.layout row.picture r))
    c.requires.here told in
    let line = (c.requires.sees.rows row.picture place.row there.0).0 in
    let n : ℕ = samples_a_word rows.layout * span.word + clamped (span.left +ℤ pos k) span.count in
    c.unit_line.ensures.value k lt
    ∙ read_sample rows.board.now.flight rows.layout c.requires.sees.flight rows.seen.now row.picture format
    c.args.greatest c.args.c place.row place.line n c.in-Some.at c.requires.component (span.column +ℤ pos k) place.y
    there.1 there.0 line c.requires.place.row c.requires.place.line (c.requires.span.held k lt) same

pub returns-in-None-clause-value : goal.returns-in-None-clause-value
returns-in-None-clause-value c = λ format same k lt.
    let rows = c.args.rows.now in
    let row = c.args.row.now in
    let place = c.args.place in
    let untold = subst (λ r. is_seen rows.seen.now row.picture r ≡ false) c.requires.here
    (none_final rows.layout rows.seen.now row c.requires.row c.in-None.is) in
    c.clear.ensures.value k lt
    ∙ unseen_sample rows.board.now.flight rows.layout c.requires.sees.flight rows.seen.now row.picture format c.args.c
    place.row (c.args.span.column +ℤ pos k) place.y untold c.requires.place.row
