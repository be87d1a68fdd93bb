use Rattle.std.proofs.Common.{◌≡◌, ◌-◌, ◌/◌, ◌<◌, ◌&&◌, min, nat_lt, arith, refl, subst, sym, ap, ◌∙◌}
use Rattle.std.proofs.lemmas.Bool.{and_parts, ltb-true}
use Rattle.progress_words.specs.Passes.{view}
use Rattle.filter_words.specs.Regions.{LaysPlaces}
use Rattle.filter_words.specs.Rows.{is_in_row}
use Rattle.filter_words.specs.Units.{places_at, unit_side}
use Rattle.filter_words.proofs.Passing.{row_beside}
use Rattle.filter_words.proofs.Regions.{lays_asked, lays_unasked}
use Rattle.filter_words.proofs.Rows.{whole_above}
use Rattle.filter_words.proofs.rows_beside.lay_above.Goals as goal

pub lay_line_places-requires-clause-seen : goal.lay_line_places-requires-clause-seen
lay_line_places-requires-clause-seen c =
    let asked = and_parts (nat_lt 0 c.args.beside) _ (sym c.has_above.ensures ∙ c.if-has_above.true) in
    let some : 0 < c.args.beside = ltb-true _ _ asked.0 in
    row_beside c.args.board.now.flight c.args.layout.now (view c.args.pass.now) (view c.args.pass.now) c.args.line
    (min c.args.beside 1) (c.args.line.row - 1) refl c.requires.seen (omega (arith, c.requires.row))
    (omega (arith, some))
    (omega arith)

pub lay_line_places-requires-clause-inside : goal.lay_line_places-requires-clause-inside
lay_line_places-requires-clause-inside c =
    let asked = and_parts (nat_lt 0 c.args.beside) _ (sym c.has_above.ensures ∙ c.if-has_above.true) in
    let some : 0 < c.args.line.row = ltb-true _ _ asked.1 in
    let whole = whole_above c.args.layout.now c.args.line.row some c.requires.row in
    omega (arith, whole, c.ctb_size.ensures.value)

pub returns-then-has_above-clause-places : goal.returns-then-has_above-clause-places
returns-then-has_above-clause-places c =
    let side : c.ctb_size.result / 4 ≡ unit_side c.args.layout.now =
    ap (λ n. n / 4) c.ctb_size.ensures.value in
    lays_asked (nat_lt 0 c.args.beside && nat_lt 0 c.args.line.row)
    (is_in_row c.args.layout.now (c.args.line.row - 1) (unit_side c.args.layout.now - c.args.beside)
    (unit_side c.args.layout.now))
    (places_at c.args.board.now.flight c.args.line) c.args.around.now c.lay_line_places.new.around
    (sym c.has_above.ensures ∙ c.if-has_above.true)
    (subst
    (λ n. LaysPlaces (is_in_row c.args.layout.now (c.args.line.row - 1) (n - c.args.beside) n)
    (places_at c.args.board.now.flight c.args.line) c.args.around.now c.lay_line_places.new.around)
    side c.lay_line_places.ensures.places)

pub returns-else-has_above-clause-places : goal.returns-else-has_above-clause-places
returns-else-has_above-clause-places c =
    lays_unasked (nat_lt 0 c.args.beside && nat_lt 0 c.args.line.row)
    (is_in_row c.args.layout.now (c.args.line.row - 1) (unit_side c.args.layout.now - c.args.beside)
    (unit_side c.args.layout.now))
    (places_at c.args.board.now.flight c.args.line) c.args.around.now
    (sym c.has_above.ensures ∙ c.if-has_above.false)
