use Rattle.std.proofs.Common.{◌≡◌, ℕ, ◌-◌, ◌∙◌, refl, arith, ap, sym, subst}
use Rattle.hv_base.specs.declared.line.Phase.TheVariants.{B}
use Rattle.line_words.proofs.Words.{knows_as_much}
use Rattle.deblock.specs.Windows.{at}
use Rattle.row_filters.specs.Lines.{end_line, first_line}
use Rattle.sample_lines.specs.FactsOfFlights.{flight_in}
use Rattle.sample_lines.specs.FactsOfFlights.{samples_at}
use Rattle.filtered_rows.specs.Components.{AreRowsBuilt}
use Rattle.filtered_rows.proofs.Beside.{lower_part, own_part, upper_part}
use Rattle.filtered_rows.proofs.Laying.{all_laid}
use Rattle.filtered_rows.proofs.Sides.{in_range}
use Rattle.filtered_rows.proofs.around.read_rows_around.Goals as goal

pub lay_part-requires-clause-part : goal.lay_part-requires-clause-part
lay_part-requires-clause-part c = λ less.
    let s = c.args.layout.now in
    upper_part s c.args.component.now (in_range c.args.board.now.flight s c.requires.flight) c.requires.component
    c.args.line c.requires.line.row c.row_top-top.result c.args.beside c.row_top-top.ensures.value c.requires.beside
    c.saturating_sub.result c.saturating_sub-upper.result c.saturating_sub.ensures
    c.saturating_sub-upper.ensures less

pub lay_part-requires-2-clause-part : goal.lay_part-requires-2-clause-part
lay_part-requires-2-clause-part c = λ less.
    let s = c.args.layout.now in
    own_part s c.args.component.now (in_range c.args.board.now.flight s c.requires.flight) c.requires.component
    c.args.line c.requires.line.row c.row_top-top.result c.args.beside c.row_top-top.ensures.value c.requires.beside
    c.min-end.result c.min-end.ensures less

pub lay_part-requires-2-clause-seen : goal.lay_part-requires-2-clause-seen
lay_part-requires-2-clause-seen c =
    subst (λ v. AreRowsBuilt c.args.layout.now v c.args.line) (sym c.lay_part.ensures.same.1) c.requires.seen

pub lay_part-requires-3-clause-part : goal.lay_part-requires-3-clause-part
lay_part-requires-3-clause-part c = λ less.
    let s = c.args.layout.now in
    lower_part s c.args.component.now (in_range c.args.board.now.flight s c.requires.flight) c.requires.component
    c.args.line c.requires.line.row c.row_top-top.result c.args.beside c.row_top-top.ensures.value c.requires.beside
    c.min-end.result c.min.result _ c.min-end.ensures c.min.ensures refl less

pub lay_part-requires-3-clause-seen : goal.lay_part-requires-3-clause-seen
lay_part-requires-3-clause-seen c =
    subst (λ v. AreRowsBuilt c.args.layout.now v c.args.line)
    (sym (c.lay_part-2.ensures.same.1 ∙ c.lay_part.ensures.same.1)) c.requires.seen

pub returns-clause-same : goal.returns-clause-same
returns-clause-same c =
    knows_as_much c.args.pass.now c.lay_part-2.new.pass c.lay_part-3.new.pass
    (knows_as_much c.args.pass.now c.lay_part.new.pass c.lay_part-2.new.pass c.lay_part.ensures.same
    c.lay_part-2.ensures.same) c.lay_part-3.ensures.same

pub returns-clause-value : goal.returns-clause-value
returns-clause-value c = λ x y column low high.
    let k = c.args.component.now in
    let row = c.args.line.row in
    let top = c.row_top-top.ensures.value in
    let inside = c.row_top-top.ensures.inside in
    let above = c.saturating_sub.ensures in
    let below = c.min.ensures in
    let end = c.min-end.ensures in
    let first : c.saturating_sub.result ≡ first_line k row c.args.beside = omega (arith, above, top) in
    let last : c.min.result ≡ end_line k row c.args.beside = omega (arith, below, top) in
    ap (λ (n : ℕ). at k.width c.lay_part-3.new.out x (y - n)) (sym first)
    ∙ all_laid k.width c.saturating_sub.result c.row_top-top.result c.min-end.result c.min.result
    (samples_at (flight_in c.args.board.now.flight) c.args.line.picture B k.c)
    c.args.out.now c.lay_part.new.out c.lay_part-2.new.out c.lay_part-3.new.out (omega (arith, above))
    (omega (arith, end, inside)) (omega (arith, end, below)) c.lay_part.ensures.value c.lay_part-2.ensures.value
    c.lay_part-3.ensures.value x y column (omega (arith, low, first)) (omega (arith, high, last))
