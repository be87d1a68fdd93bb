use Rattle.std.proofs.Common.{◌≡◌, ℕ, ◌+◌, ◌-◌, ◌*◌, ◌<◌, ◌∙◌, arith, ap, sym, subst, get_or, List, take, drop}
use Rattle.std.specs.Prelude.{min}
use Rattle.hv_base.specs.declared.line.Line.{Line}
use Rattle.sample_words.specs.Sizes.{rows}
use Rattle.line_words.specs.Places.{UnitAt}
use Rattle.sample_lines.specs.FactsOfFlights.{flight_in}
use Rattle.sample_lines.specs.Lines.{height_at, sample_of, width_at}
use Rattle.filtered_rows.proofs.Own.{own_held, own_inside, own_size, own_told, own_whole}
use Rattle.filtered_rows.proofs.Sides.{at_is, in_range, offset_other, row_there}
use Rattle.filtered_rows.proofs.components.write_row.Goals as goal

pub row_top-top-requires-clause-row : goal.row_top-top-requires-clause-row
row_top-top-requires-clause-row c =
    let u = c.args.at.now in
    let there = row_there c.args.layout.now u c.requires.place c.line-line.ensures.unit u.line.phase in
    let row = ap (λ (m : Line). m.row) c.line-line.ensures.value in
    subst (λ (n : ℕ). n < rows c.args.layout.now) (sym row) there.row

pub slice_bounds-write_lines-end : goal.slice_bounds-write_lines-end
slice_bounds-write_lines-end c =
    let u = c.args.at.now in
    let k = c.args.component.now in
    let row : c.line-line.result.row ≡ u.line.row = ap (λ (m : Line). m.row) c.line-line.ensures.value in
    let top : c.row_top-top.result ≡ k.size * u.line.row =
    c.row_top-top.ensures.value ∙ ap (λ (n : ℕ). k.size * n) row in
    let inside = c.row_top-top.ensures.inside in
    let begins : k.size * u.line.row < k.height = omega (arith, inside, top) in
    let first : c.min-above.result ≡ min (k.size * u.line.row) c.args.beside =
    c.min-above.ensures ∙ ap (λ (n : ℕ). min n c.args.beside) top in
    let count : c.min.result ≡ min k.size (k.height - k.size * u.line.row) =
    c.min.ensures ∙ ap (λ (n : ℕ). min k.size (k.height - n)) top in
    own_inside k u.line.row c.args.beside c.min-above.result c.min.result c.args.lines.now first count begins
    c.requires.room

pub write_lines-requires-clause-whole : goal.write_lines-requires-clause-whole
write_lines-requires-clause-whole c =
    let u = c.args.at.now in
    let k = c.args.component.now in
    let row : c.line-line.result.row ≡ u.line.row = ap (λ (m : Line). m.row) c.line-line.ensures.value in
    let top : c.row_top-top.result ≡ k.size * u.line.row =
    c.row_top-top.ensures.value ∙ ap (λ (n : ℕ). k.size * n) row in
    let inside = c.row_top-top.ensures.inside in
    let begins : k.size * u.line.row < k.height = omega (arith, inside, top) in
    let first : c.min-above.result ≡ min (k.size * u.line.row) c.args.beside =
    c.min-above.ensures ∙ ap (λ (n : ℕ). min n c.args.beside) top in
    let count : c.min.result ≡ min k.size (k.height - k.size * u.line.row) =
    c.min.ensures ∙ ap (λ (n : ℕ). min k.size (k.height - n)) top in
    let s = c.args.layout.now in
    let is = in_range c.args.board.now.flight s c.requires.flight in
    let same = at_is s u c.requires.place c.line-line.ensures.unit (offset_other u.line.phase c.requires.phase) in
    own_whole s k is c.requires.component u.line (offset_other u.line.phase c.requires.phase) c.min.result count _
    (own_size k u.line.row c.args.beside c.min-above.result c.min.result c.args.lines.now first count begins
    c.requires.room)
    ∙ ap (λ (v : UnitAt). width_at v k.c * height_at v k.c) (sym same)

pub write_lines-requires-clause-value : goal.write_lines-requires-clause-value
write_lines-requires-clause-value c =
    let u = c.args.at.now in
    let k = c.args.component.now in
    let row : c.line-line.result.row ≡ u.line.row = ap (λ (m : Line). m.row) c.line-line.ensures.value in
    let top : c.row_top-top.result ≡ k.size * u.line.row =
    c.row_top-top.ensures.value ∙ ap (λ (n : ℕ). k.size * n) row in
    let inside = c.row_top-top.ensures.inside in
    let begins : k.size * u.line.row < k.height = omega (arith, inside, top) in
    let first : c.min-above.result ≡ min (k.size * u.line.row) c.args.beside =
    c.min-above.ensures ∙ ap (λ (n : ℕ). min n c.args.beside) top in
    let count : c.min.result ≡ min k.size (k.height - k.size * u.line.row) =
    c.min.ensures ∙ ap (λ (n : ℕ). min k.size (k.height - n)) top in
    let s = c.args.layout.now in
    let f = flight_in c.args.board.now.flight in
    let is = in_range c.args.board.now.flight s c.requires.flight in
    let same = at_is s u c.requires.place c.line-line.ensures.unit (offset_other u.line.phase c.requires.phase) in
    let part : List ℕ =
    take (k.width * (c.min-above.result + c.min.result) - k.width * c.min-above.result)
    (drop (k.width * c.min-above.result) c.args.lines.now) in
    subst (λ (v : UnitAt). (x y : ℕ) → x < width_at v k.c → y < height_at v k.c
    → get_or part (width_at v k.c * y + x) 0 ≡ sample_of f v k.c x y) (sym same)
    (own_told s k is c.requires.component u.line (offset_other u.line.phase c.requires.phase) c.min.result count f part
    (own_held k u.line.row c.args.beside c.min-above.result c.min.result c.args.lines.now first count begins
    c.requires.room _ c.requires.value))
