use Rattle.std.proofs.Common.{rules, ◌+◌, drop, ◌∙◌}
use Rattle.ctu_build.proofs.Steps.{passed_over}
use Rattle.ctu_build.proofs.unit.behind_levels.Goals as goal

pub loop-k-preserved : goal.loop-k-preserved
loop-k-preserved c = record {
  told = λ format inter all building.
      passed_over format inter all c.args.items.now c.loop-k.k _ building c.loop-k-test.true
      (c.is_level.ensures (search rules) format inter all building (drop (c.loop-k.k + 1) c.args.items.now))
      ∙ c.loop-k.invariant.told format inter all building;
}
