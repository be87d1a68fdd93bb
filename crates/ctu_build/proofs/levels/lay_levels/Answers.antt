use Rattle.std.proofs.Common.{rules, ◌+◌, drop, sym, ap, ◌∙◌, arith}
use Rattle.std.proofs.lemmas.List.{drop_more, drop_all}
use Rattle.spec_reconstruction.specs.Residuals.{levels_laid}
use Rattle.ctu_build.proofs.levels.lay_levels.Goals as goal

pub loop-k-preserved : goal.loop-k-preserved
loop-k-preserved c = record {
  small = c.lay_item.ensures.small;
  told =
      sym (c.lay_item.ensures.more (search rules) (drop (c.loop-k.k + 1) c.args.items.now))
      ∙ sym (ap (levels_laid c.loop-k.levels) (drop_more c.args.items.now c.loop-k.k _ c.loop-k-test.true))
      ∙ c.loop-k.invariant.told;
}

pub returns-then-not-lay_item-clause-value : goal.returns-then-not-lay_item-clause-value
returns-then-not-lay_item-clause-value c =
    sym (c.lay_item.ensures.none (search rules) (drop (c.loop-k.k + 1) c.args.items.now))
    ∙ sym (ap (levels_laid c.loop-k.levels) (drop_more c.args.items.now c.loop-k.k _ c.loop-k-test.true))
    ∙ c.loop-k.invariant.told

pub returns-clause-value : goal.returns-clause-value
unfolding levels_laid
returns-clause-value c =
    sym (ap (levels_laid c.loop-k.levels) (drop_all c.loop-k.k c.args.items.now (omega (arith, c.loop-k-test.false))))
    ∙ c.loop-k.invariant.told
