use Rattle.deblock.specs.Lanes.{line_of}
use Rattle.deblock.proofs.Vectors.{normal_lines}
use Rattle.deblock.proofs.lanes.normal.Goals as goal

pub returns : goal.returns
returns c = record {
  value = λ k lt. normal_lines c.args.p1 c.args.q1 c.args.greatest c.args.tc (line_of c.args.l.now k) _ _ _ _ _ _ _
      (c.normal_change-change.ensures.value k lt) (c.within-delta.ensures.value k lt)
      (c.negated-back.ensures.value k lt)
      (rw (c.second_samples-before.ensures.value k lt) at (c.where_few.ensures.value k lt))
      (rw (c.moved.ensures.value k lt) at (c.where_few-2.ensures.value k lt))
      (rw (c.moved-2.ensures.value k lt) at (c.where_few-3.ensures.value k lt))
      (rw (c.second_samples-behind.ensures.value k lt) at (c.where_few-4.ensures.value k lt));
}
