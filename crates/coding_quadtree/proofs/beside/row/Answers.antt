use Rattle.std.proofs.Common.{arith}
use Rattle.coding_quadtree.proofs.Sides.{side_by_place}
use Rattle.coding_quadtree.proofs.beside.row.Goals as goal

pub returns-clause-value : goal.returns-clause-value
returns-clause-value g c = side_by_place _ _ _ c.loop-k.invariant.count (λ k h. c.loop-k.invariant.told k (omega arith))
