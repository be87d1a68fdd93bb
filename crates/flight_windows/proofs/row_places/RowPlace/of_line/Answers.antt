use Rattle.std.proofs.Common.{◌≡◌, ◌-◌, ◌*◌, ◌/◌, ◌%◌, ◌^◌, ◌<◌, min, ℕ, arith, ap, subst, sym, ◌∙◌}
use Rattle.std.proofs.Math.Nat.{mod-eq_of_lt}
use Rattle.sample_words.specs.Contents.{component_side}
use Rattle.flight_windows.proofs.Lines.{IsInRow, in_row}
use Rattle.flight_windows.proofs.row_places.RowPlace.of_line.Goals as goal

pub returns-clause-inside : goal.returns-clause-inside
returns-clause-inside c =
    let a = c.args in
    let row : ℕ = c.luma_line-luma.result / 2 ^ a.ctb_log2 in
    let told : IsInRow a.c a.height (2 ^ a.ctb_log2) row a.line =
    subst (λ v. IsInRow a.c a.height (2 ^ a.ctb_log2) (v / 2 ^ a.ctb_log2) a.line) (sym c.luma_line-luma.ensures)
    (in_row a.c a.height a.ctb_log2 a.line c.requires.height.0 c.requires.height.1 c.requires.size.0
    c.requires.line) in
    let few = told.whole in
    let whole : row * 2 ^ a.ctb_log2 % 4294967296 ≡ row * 2 ^ a.ctb_log2 = mod-eq_of_lt (omega (arith, few)) in
    let first : c.component_side-first.result ≡ component_side a.c (row * 2 ^ a.ctb_log2) =
    c.component_side-first.ensures ∙ ap (component_side a.c) whole in
    subst (λ n. a.line - n < component_side a.c (min (2 ^ a.ctb_log2) (a.height - row * 2 ^ a.ctb_log2))) (sym first)
    told.inside
