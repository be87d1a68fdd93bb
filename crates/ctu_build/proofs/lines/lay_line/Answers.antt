use Rattle.std.proofs.Common.{rules, arith}
use Rattle.ctu_build.proofs.Writing.{block_at}
use Rattle.ctu_build.proofs.lines.lay_line.Goals as goal

pub returns : goal.returns
returns g c = λ q.
    block_at c.args.first _ _ c.args.from _ _ c.args.block.now q c.requires.room c.requires.enough (omega arith)
    (search rules)
