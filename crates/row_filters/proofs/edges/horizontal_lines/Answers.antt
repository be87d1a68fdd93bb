use Rattle.std.proofs.Common.{◌-◌, ◌*◌, ◌∙◌, arith}
use Rattle.deblock.specs.Windows.{at}
use Rattle.row_filters.specs.Lines.{end_line, first_line}
use Rattle.row_filters.proofs.Places.{top_whole}
use Rattle.row_filters.proofs.Rows.{begins, edges_of_row, horizontal_all, is_row}
use Rattle.row_filters.proofs.edges.horizontal_lines.Goals as goal

pub row_around-lines-requires-clause-row : goal.row_around-lines-requires-clause-row
row_around-lines-requires-clause-row g c =
    begins (g.V.FilterView.shape c.args.view.now) c.args.component.now c.args.row c.requires.component c.requires.row

pub horizontal_row-requires-clause-row : goal.horizontal_row-requires-clause-row
horizontal_row-requires-clause-row g c =
    rw c.row_around-lines.ensures
    (is_row (g.V.FilterView.shape c.args.view.now) c.args.component.now c.args.row 4 c.requires.format
    c.requires.component c.requires.row (omega arith))

pub returns-clause-value : goal.returns-clause-value
returns-clause-value g c = λ places f are hold x y column low high.
    let k = c.args.component.now in
    let top = top_whole (g.V.FilterView.shape c.args.view.now) k c.args.row c.requires.format c.requires.component in
    let grid = c.requires.component.grid in
    let told = rw c.row_around-lines.ensures at c.horizontal_row.ensures.value in
    told x y column low high
    ∙ edges_of_row k.plane k.depth k.height (g.V.PlaceView.place_at c.args.view.now)
    (λ i j. at k.width c.args.samples.now i (j - first_line k c.args.row 4)) (k.size * c.args.row)
    (end_line k c.args.row 4) x y top (omega (arith, low)) (λ inside. omega (arith, inside, high, top, grid))
    ∙ horizontal_all (g.V.FilterView.shape c.args.view.now) k c.args.row places
    (g.V.PlaceView.place_at c.args.view.now) f
    (λ i j. at k.width c.args.samples.now i (j - first_line k c.args.row 4)) c.requires.format c.requires.component hold
    are x y column low high
