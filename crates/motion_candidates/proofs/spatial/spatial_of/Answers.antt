use Rattle.std.proofs.Common.{arith}
use Rattle.motion_candidates.proofs.Lists.{five, without_fifth}
use Rattle.motion_candidates.proofs.spatial.spatial_of.Goals as goal

pub returns-then-len-lt4-clause-value : goal.returns-then-len-lt4-clause-value
returns-then-len-lt4-clause-value c =
    let a = c.args in
    five a.a1 a.b1 a.b0 a.a0 a.b2 _ _ _ c.first_four-candidates.ensures.value (omega arith) (cc) c.add.ensures.value

pub returns-else-len-lt4-clause-value : goal.returns-else-len-lt4-clause-value
returns-else-len-lt4-clause-value c =
    let a = c.args in
    without_fifth a.a1 a.b1 a.b0 a.a0 a.b2 _ c.first_four-candidates.ensures.value (omega arith) (omega arith)
