use Rattle.std.proofs.Common.{arith}
use Rattle.intra_pred.proofs.Sizes.{small, large}
use Rattle.intra_pred.proofs.rows.columns.Goals as goal

pub returns-clause-least : goal.returns-clause-least
returns-clause-least c =
    let few = small c.args.log2 c.requires.high in
    let some = large c.args.log2 c.requires.low in
    omega arith

pub returns-clause-greatest : goal.returns-clause-greatest
returns-clause-greatest c = let few = small c.args.log2 c.requires.high in omega arith
