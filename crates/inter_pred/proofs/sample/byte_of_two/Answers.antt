use Rattle.std.proofs.Common.{arith}
use Rattle.inter_pred.proofs.Means.{two_is}
use Rattle.inter_pred.proofs.sample.byte_of_two.Goals as goal

pub returns : goal.returns
returns c = let e = two_is c.args.p c.args.q in omega (arith, e, c.min.ensures, c.saturating_sub.ensures)
