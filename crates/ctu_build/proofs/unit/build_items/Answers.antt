use Rattle.std.proofs.Common.{refl, ◌∙◌, arith}
use Rattle.ctu_build.specs.Building.{building}
use Rattle.ctu_build.specs.Held.{held}
use Rattle.ctu_build.specs.Inter.{inter_of}
use Rattle.ctu_build.proofs.Steps.{built_more, built_all, pulses_behind}
use Rattle.ctu_build.proofs.unit.build_items.Goals as goal

pub loop-k-preserved : goal.loop-k-preserved
loop-k-preserved g c = record {
  mode = c.build_item-coding.ensures.mode;
  told = λ all each pulses.
      c.behind_levels-k.ensures.value _
      (inter_of c.args.source.now.inter (g.V.RefWindow.reference_at c.args.view.now)) _
      (building c.build_item-coding.result (held c.build_item-coding.new.samples))
      ∙ built_more _ (inter_of c.args.source.now.inter (g.V.RefWindow.reference_at c.args.view.now)) _
      c.args.items.now c.loop-k.k _ _ (building c.loop-k.coding (held c.loop-k.samples))
      _ _ c.loop-k-test.true refl
      (rw c.loop-k.invariant.same at
      (c.build_item-coding.ensures.value all (each c.loop-k.k _ c.loop-k-test.true)
      (pulses_behind c.args.source.now.format.now c.args.items.now c.loop-k.k _ c.loop-k-test.true pulses)))
      (c.loop-k.invariant.told all each pulses);
  same = c.build_item-coding.ensures.same ∙ c.loop-k.invariant.same;
}

pub returns-clause-value : goal.returns-clause-value
returns-clause-value g c all each pulses =
    built_all _ _ _ c.args.items.now c.loop-k.k (building c.loop-k.coding (held c.loop-k.samples)) _
    (omega (arith, c.loop-k-test.false)) (c.loop-k.invariant.told all each pulses)
