use Rattle.std.proofs.Common.{◌≡◌, ◌-◌, ◌∙◌, ◌&&◌, true, nat_le, nat_lt, arith}
use Rattle.std.proofs.lemmas.Bool.Decides.{nat_tests}
use Rattle.deblock.specs.Windows.{at}
use Rattle.deblock.proofs.Laying.{cond_yes}
use Rattle.row_filters.specs.Lines.{end_line, first_line}
use Rattle.row_filters.proofs.Rows.{begins, is_all, vertical_all}
use Rattle.row_filters.proofs.edges.vertical_lines.Goals as goal

pub all_lines-lines-requires-clause-row : goal.all_lines-lines-requires-clause-row
all_lines-lines-requires-clause-row g c =
    begins (g.V.FilterView.shape c.args.view.now) c.args.component.now c.args.row c.requires.component c.requires.row

pub vertical_row-requires-clause-row : goal.vertical_row-requires-clause-row
vertical_row-requires-clause-row g c =
    rw c.all_lines-lines.ensures
    (is_all (g.V.FilterView.shape c.args.view.now) c.args.component.now c.args.row c.requires.format
    c.requires.component c.requires.row)

pub returns-clause-value : goal.returns-clause-value
returns-clause-value g c = λ places f are hold x y column low high.
    let k = c.args.component.now in
    let told = rw c.all_lines-lines.ensures at c.vertical_row.ensures.value in
    let own : (nat_le (first_line k c.args.row 4) y && nat_lt y (end_line k c.args.row 4)) ≡ true =
    grind (arith, nat_tests) in
    cond_yes _ _ _ _ (told x y column low high) own
    ∙ vertical_all (g.V.FilterView.shape c.args.view.now) k c.args.row places (g.V.PlaceView.place_at c.args.view.now) f
    (λ i j. at k.width c.args.samples.now i (j - first_line k c.args.row 4)) c.requires.format c.requires.component hold
    are x y column low high
