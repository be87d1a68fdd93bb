use Rattle.std.proofs.Common.{◌+◌, ◌<◌, ◌&&◌, min, nat_lt, arith, refl, sym, ◌∙◌}
use Rattle.std.proofs.lemmas.Bool.{and_parts, ltb-true}
use Rattle.sample_words.specs.Sizes.{rows}
use Rattle.progress_words.specs.Passes.{view}
use Rattle.filter_words.specs.Rows.{is_in_row}
use Rattle.filter_words.specs.Units.{places_at}
use Rattle.filter_words.proofs.Passing.{row_beside}
use Rattle.filter_words.proofs.Regions.{lays_asked, lays_unasked}
use Rattle.filter_words.proofs.Sizes.{row_along}
use Rattle.filter_words.proofs.Words.{flight_sized}
use Rattle.filter_words.proofs.rows_beside.lay_below.Goals as goal

pub lay_line_places-requires-clause-row : goal.lay_line_places-requires-clause-row
lay_line_places-requires-clause-row c =
    let asked = and_parts (nat_lt 0 c.args.beside) _ (sym c.has_below.ensures.value ∙ c.if-has_below.true) in
    ltb-true _ _ asked.1

pub lay_line_places-requires-clause-seen : goal.lay_line_places-requires-clause-seen
lay_line_places-requires-clause-seen c =
    let asked = and_parts (nat_lt 0 c.args.beside) _ (sym c.has_below.ensures.value ∙ c.if-has_below.true) in
    let some : 0 < c.args.beside = ltb-true _ _ asked.0 in
    let there : c.args.line.row + 1 < rows c.args.layout.now = ltb-true _ _ asked.1 in
    row_beside c.args.board.now.flight c.args.layout.now (view c.args.pass.now) (view c.args.pass.now) c.args.line
    (min c.args.beside 1) (c.args.line.row + 1) refl c.requires.seen there (omega arith) (omega (arith, some))

pub lay_line_places-requires-clause-inside : goal.lay_line_places-requires-clause-inside
lay_line_places-requires-clause-inside c =
    let asked = and_parts (nat_lt 0 c.args.beside) _ (sym c.has_below.ensures.value ∙ c.if-has_below.true) in
    let there : c.args.line.row + 1 < rows c.args.layout.now = ltb-true _ _ asked.1 in
    let along =
    row_along c.args.layout.now (flight_sized c.args.board.now.flight c.args.layout.now c.requires.flight)
    (c.args.line.row + 1) there in
    omega (arith, along.some, c.requires.beside)

pub returns-then-has_below-clause-places : goal.returns-then-has_below-clause-places
returns-then-has_below-clause-places c =
    lays_asked (nat_lt 0 c.args.beside && nat_lt (c.args.line.row + 1) (rows c.args.layout.now))
    (is_in_row c.args.layout.now (c.args.line.row + 1) 0 c.args.beside) (places_at c.args.board.now.flight c.args.line)
    c.args.around.now c.lay_line_places.new.around (sym c.has_below.ensures.value ∙ c.if-has_below.true)
    c.lay_line_places.ensures.places

pub returns-else-has_below-clause-places : goal.returns-else-has_below-clause-places
returns-else-has_below-clause-places c =
    lays_unasked (nat_lt 0 c.args.beside && nat_lt (c.args.line.row + 1) (rows c.args.layout.now))
    (is_in_row c.args.layout.now (c.args.line.row + 1) 0 c.args.beside) (places_at c.args.board.now.flight c.args.line)
    c.args.around.now (sym c.has_below.ensures.value ∙ c.if-has_below.false)
