use Rattle.std.proofs.Common.{◌≡◌, ℕ, ◌+◌, cond, nat_le, nat_lt, ◌&&◌}
use Rattle.inter_pred.specs.Passes.{at, value_of}
use Rattle.inter_pred.specs.Samples.{sample}
use Rattle.inter_pred.proofs.weighting.line.Given as goal

abbrev pub invariant-loop-k : goal.invariant-loop-k
invariant-loop-k g l = (i : ℕ) → at l.out i
    ≡ cond (nat_le l.from i && nat_lt i (l.from + l.k))
    (sample g.row.KIND l.scale.depth l.scale.log2_wd l.scale.first l.scale.second (value_of (at l.p i))
    (value_of (at l.q i)))
    (at l.fn.out i)
