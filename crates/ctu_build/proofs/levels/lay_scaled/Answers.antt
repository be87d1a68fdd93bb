use Rattle.std.proofs.Common.{rules, ◌+◌, drop, sym, ap, ◌∙◌, arith, slice_index}
use Rattle.std.proofs.lemmas.List.{drop_more, drop_all}
use Rattle.ctu_build.specs.Scaled.{scaled_laid}
use Rattle.spec_transforms.specs.Scaling.{scaled}
use Rattle.ctu_build.proofs.levels.lay_scaled.Goals as goal

pub loop-k-preserved : goal.loop-k-preserved
loop-k-preserved c = record {
  small = c.lay_scaled_item.ensures.small;
  count = c.lay_scaled_item.ensures.count ∙ c.loop-k.invariant.count;
  told = λ depth log2 qp quantizers shifts.
      sym (c.lay_scaled_item.ensures.more depth log2 qp quantizers shifts (search rules)
      (drop (c.loop-k.k + 1) c.args.items.now))
      ∙ sym (ap (scaled_laid (λ place level. scaled depth log2 qp (slice_index c.args.factors.now place) level)
      c.loop-k.out) (drop_more c.args.items.now c.loop-k.k _ c.loop-k-test.true))
      ∙ c.loop-k.invariant.told depth log2 qp quantizers shifts;
}

pub returns-then-not-lay_scaled_item-clause-value : goal.returns-then-not-lay_scaled_item-clause-value
returns-then-not-lay_scaled_item-clause-value c depth log2 qp quantizers shifts =
    sym (c.lay_scaled_item.ensures.none depth log2 qp (search rules) (drop (c.loop-k.k + 1) c.args.items.now))
    ∙ sym (ap (scaled_laid (λ place level. scaled depth log2 qp (slice_index c.args.factors.now place) level)
    c.loop-k.out) (drop_more c.args.items.now c.loop-k.k _ c.loop-k-test.true))
    ∙ c.loop-k.invariant.told depth log2 qp quantizers shifts

pub returns-clause-value : goal.returns-clause-value
unfolding scaled_laid
returns-clause-value c depth log2 qp quantizers shifts =
    sym (ap (scaled_laid (λ place level. scaled depth log2 qp (slice_index c.args.factors.now place) level)
    c.loop-k.out) (drop_all c.loop-k.k c.args.items.now (omega (arith, c.loop-k-test.false))))
    ∙ c.loop-k.invariant.told depth log2 qp quantizers shifts
