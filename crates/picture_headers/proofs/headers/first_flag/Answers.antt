use Rattle.std.proofs.Common.{arith}
use Rattle.picture_headers.proofs.FirstFlags.{first_of_none, first_of_some}
use Rattle.picture_headers.proofs.headers.first_flag.Goals as goal

pub returns-in-empty : goal.returns-in-empty
returns-in-empty c = first_of_none c.args.payload.now (omega arith)

pub returns-in-len1-up : goal.returns-in-len1-up
returns-in-len1-up c = first_of_some c.args.payload.now (omega arith) (omega (arith, c.type_inv.payload 0))
