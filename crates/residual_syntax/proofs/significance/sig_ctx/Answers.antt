use Rattle.std.proofs.Common.{◌+◌, ◌*◌, arith}
use Rattle.residual_syntax.proofs.Positions.{map_small}
use Rattle.residual_syntax.proofs.significance.sig_ctx.Goals as goal

pub returns-then-block-eq2-clause-small : goal.returns-then-block-eq2-clause-small
returns-then-block-eq2-clause-small c =
    let low = map_small (4 * c.args.y + c.args.x) (omega arith) in omega (arith, c.from.ensures)
