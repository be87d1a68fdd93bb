use Rattle.deblock.specs.Lanes.{line_of}
use Rattle.deblock.proofs.Vectors.{strong_lines}
use Rattle.deblock.proofs.lanes.strong.Goals as goal

pub returns : goal.returns
returns c = record {
  value = λ k lt. strong_lines c.args.tc (line_of c.args.l.now k) _ _ _ _ _ _ (c.third.ensures.value k lt)
      (c.second.ensures.value k lt) (c.first.ensures.value k lt) (c.first-2.ensures.value k lt)
      (c.second-2.ensures.value k lt) (c.third-2.ensures.value k lt);
}
