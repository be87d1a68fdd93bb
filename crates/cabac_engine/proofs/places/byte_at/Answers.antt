use Rattle.std.proofs.Common.{rules}
use Rattle.cabac_engine.proofs.Held.{byte_spelled}
use Rattle.cabac_engine.proofs.places.byte_at.Goals as goal

pub returns : goal.returns
returns c = byte_spelled c.args.place c.args.bytes.now (search rules) (search rules)
