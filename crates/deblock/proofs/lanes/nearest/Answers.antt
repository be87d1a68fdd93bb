use Rattle.deblock.specs.Lanes.{line_of}
use Rattle.deblock.proofs.Vectors.{nearest_lines}
use Rattle.deblock.proofs.lanes.nearest.Goals as goal

pub returns : goal.returns
returns c = record {
  value = λ k lt. nearest_lines c.args.greatest c.args.tc (line_of c.args.l.now k) _ _ _ _ _
      (c.chroma_change-change.ensures.value k lt) (c.within-delta.ensures.value k lt)
      (c.negated-back.ensures.value k lt) (c.moved.ensures.value k lt) (c.moved-2.ensures.value k lt);
}
