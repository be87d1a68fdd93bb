use Rattle.std.proofs.Common.{rules}
use Rattle.header_types.proofs.Equality.{sps_exact}
use Rattle.header_types.proofs.laws.same_content_is_equality.Goals as goal

pub returns : goal.returns
returns c a b = let e = sps_exact a b in search rules
