use Rattle.std.proofs.Common.{◌≡◌, ℕ, ◌+◌, ◌-◌, ap, ◌<◌, ◌≤◌, ◌∙◌, arith}
use Rattle.spec_deblocking.specs.declared.line.Line.{Line}
use Rattle.spec_deblocking.specs.declared.line.Filter.TheVariants.{Nearest}
use Rattle.spec_deblocking.specs.Lines.{across}
use Rattle.spec_deblocking.specs.Filters.{filtered}
use Rattle.spec_deblocking.proofs.Across.{nth_is}
use Rattle.deblock.specs.Lanes.{line_of}
use Rattle.deblock.specs.Windows.{seen}
use Rattle.deblock.proofs.Ends.{nearest_before, nearest_behind}
use Rattle.deblock.proofs.Laying.{inner_laid}
use Rattle.deblock.proofs.four.filter_inner_rows.Goals as goal

pub returns-clause-value : goal.returns-clause-value
returns-clause-value c = λ i j h.
    let f : ℕ → ℕ → ℕ = seen c.args.w.now c.args.out.now in
    let line : Line = filtered Nearest c.args.greatest c.args.tc (across f c.args.a j) in
    let same : c.args.b ≤ j → j < c.args.b + 4 → line_of c.filtered_lines-lines.result (j - c.args.b) ≡ line =
    λ low high.
    let back : c.args.b + (j - c.args.b) ≡ j = omega (arith, low) in
    let less : j - c.args.b < 4 = omega (arith, low, high) in
    c.filtered_lines-lines.ensures.value (j - c.args.b) less
    ∙ ap (λ (l : Line). filtered Nearest c.args.greatest c.args.tc l)
    (c.read_rows-old.ensures.value (j - c.args.b) less ∙ ap (λ (y : ℕ). across f c.args.a y) back) in
    inner_laid c.args.b c.args.a i j line f _ _ _ _
    (c.write_row-2.ensures.value i j h) (c.write_row.ensures.value i j h)
    (λ low high. ap (λ (l : Line). l.p0) (same low high)) (λ low high. ap (λ (l : Line). l.q0) (same low high))
    (λ low high k lt. nearest_before c.args.greatest c.args.tc (across f c.args.a j) k lt
    ∙ nth_is f c.args.a j k (omega (arith, lt)))
    (λ low high k lt. nearest_behind c.args.greatest c.args.tc (across f c.args.a j) k lt
    ∙ nth_is f c.args.a j (5 + k) lt)
