use Rattle.std.proofs.Common.{◌≡◌, ℕ, ◌+◌, ◌<◌, ap, ◌∙◌, arith}
use Rattle.spec_deblocking.specs.declared.line.Line.{Line}
use Rattle.spec_deblocking.specs.Lines.{across}
use Rattle.spec_deblocking.specs.Filters.{filtered}
use Rattle.deblock.specs.Lanes.{line_of}
use Rattle.deblock.specs.Windows.{seen}
use Rattle.deblock.proofs.Abreast.{more_line, no_lines, same_row}
use Rattle.deblock.proofs.columns.filter_columns.Goals as goal

pub returns-clause-value : goal.returns-clause-value
returns-clause-value c = λ i j h.
    let f : ℕ → Line = λ y. filtered c.args.filter c.args.greatest c.args.tc
    (across (seen c.args.w.now c.args.out.now) c.args.a y) in
    let line : (n : ℕ) → n < 4 → line_of c.filtered_lines.result n ≡ f (c.args.b + n) = λ n lt.
    c.filtered_lines.ensures.value n lt
    ∙ ap (λ (l : Line). filtered c.args.filter c.args.greatest c.args.tc l) (c.read_columns-old.ensures.value n lt) in
    let l0 = c.turned_back-lines.ensures.first ∙ line 0 (omega arith) in
    let l1 = c.turned_back-lines.ensures.second ∙ line 1 (omega arith) in
    let l2 = c.turned_back-lines.ensures.third ∙ line 2 (omega arith) in
    let l3 = c.turned_back-lines.ensures.fourth ∙ line 3 (omega arith) in
    let s0 = more_line c.args.a c.args.b 0 i j f _ _ _ _ l0 (c.write_line.ensures.value i j h)
    (no_lines c.args.a c.args.b i j _ _) in
    let s1 = more_line c.args.a c.args.b 1 i j f _ _ _ _ l1 (c.write_line-2.ensures.value i j h) s0 in
    let s2 = more_line c.args.a c.args.b 2 i j f _ _ _ _ l2 (c.write_line-3.ensures.value i j h) s1 in
    more_line c.args.a c.args.b 3 i j f _ _ _ _ l3 (c.write_line-4.ensures.value i j h) s2

pub returns-clause-bounded : goal.returns-clause-bounded
returns-clause-bounded c =
    let small = c.filtered_lines.ensures.small in
    c.write_line-4.ensures.small c.args.greatest
    (same_row _ _ _ c.turned_back-lines.ensures.fourth (small 3 (omega arith)))
    (c.write_line-3.ensures.small c.args.greatest
    (same_row _ _ _ c.turned_back-lines.ensures.third (small 2 (omega arith)))
    (c.write_line-2.ensures.small c.args.greatest
    (same_row _ _ _ c.turned_back-lines.ensures.second (small 1 (omega arith)))
    (c.write_line.ensures.small c.args.greatest
    (same_row _ _ _ c.turned_back-lines.ensures.first (small 0 (omega arith)))
    c.requires.bounded)))
