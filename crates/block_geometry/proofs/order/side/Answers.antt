use Rattle.std.proofs.Common.{arith}
use Rattle.block_geometry.proofs.Scans.{side}
use Rattle.block_geometry.proofs.order.side.Goals as goal

pub returns-clause-few : goal.returns-clause-few
returns-clause-few c = let few = side c.args.log2 c.requires in omega arith
