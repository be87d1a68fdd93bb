use Rattle.std.proofs.Common.{◌≡◌, ℕ, ◌+◌, ◌-◌, ap, ◌<◌, ◌∙◌, arith}
use Rattle.spec_deblocking.specs.declared.line.Line.{Line}
use Rattle.spec_deblocking.specs.Lines.{across, nth}
use Rattle.spec_deblocking.specs.Filters.{filtered}
use Rattle.deblock.specs.Windows.{seen}
use Rattle.deblock.proofs.Beside.{rows_then}
use Rattle.deblock.proofs.four.filter_rows.Goals as goal

pub returns-clause-value : goal.returns-clause-value
returns-clause-value c = λ i j h.
    rows_then c.args.b j _ _ _ _ _ (c.write_rows.ensures.value i j h) (λ low high.
    let back : c.args.b + (j - c.args.b) ≡ j = omega (arith, low) in
    let less : j - c.args.b < 4 = omega (arith, low, high) in
    ap (λ (l : Line). nth l (i - c.args.a))
    (c.filtered_lines-lines.ensures.value (j - c.args.b) less
    ∙ ap (λ (l : Line). filtered c.args.filter c.args.greatest c.args.tc l)
    (c.read_rows-old.ensures.value (j - c.args.b) less
    ∙ ap (λ (y : ℕ). across (seen c.args.w.now c.args.out.now) c.args.a y) back)))
