use Rattle.std.proofs.Common.{rules}
use Rattle.slice_types.proofs.Equality.{references_exact}
use Rattle.slice_types.proofs.laws.same_references_are_equality.Goals as goal

pub returns : goal.returns
returns c a b = let e = references_exact a b in search rules
