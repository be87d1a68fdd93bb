use Rattle.std.proofs.Common.{arith}
use Rattle.cabac_engine.proofs.Trailing.{no_stop_past}
use Rattle.cabac_engine.proofs.places.is_stop.Goals as goal

pub returns-then-at-bytes : goal.returns-then-at-bytes
returns-then-at-bytes c = no_stop_past c.args.bytes.now c.args.at (omega arith)
