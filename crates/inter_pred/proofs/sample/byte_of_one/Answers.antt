use Rattle.std.proofs.Common.{arith}
use Rattle.inter_pred.proofs.Means.{one_is}
use Rattle.inter_pred.proofs.sample.byte_of_one.Goals as goal

pub returns : goal.returns
returns c = let e = one_is c.args.p in omega (arith, e, c.min.ensures, c.saturating_sub.ensures)
