use Rattle.std.proofs.Common.{arith}
use Rattle.picture_motion.proofs.References.{listed}
use Rattle.picture_motion.proofs.slice.references.Goals as goal

pub returns : goal.returns
returns c = listed _ _ c.loop-k.invariant.count (λ k h. c.loop-k.invariant.told k (omega arith))
