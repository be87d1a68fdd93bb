use Rattle.std.proofs.Common.{arith}
use Rattle.cabac_engine.proofs.Trailing.{zero_past}
use Rattle.cabac_engine.proofs.places.are_zero.Goals as goal

pub returns : goal.returns
returns c = zero_past c.args.bytes.now c.args.at c.loop-i.i (omega arith) c.loop-i.invariant
