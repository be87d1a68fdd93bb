use Rattle.std.proofs.Common.{arith}
use Rattle.unit_trees.proofs.Sides.{places_side}
use Rattle.unit_words.proofs.unit_above.sides_in.Goals as goal

pub returns : goal.returns
returns c = places_side _ _ c.loop-k.invariant.count (λ k h. c.loop-k.invariant.told k (omega arith))
