use Rattle.std.proofs.Common.{rules}
use Rattle.scaling_factors.proofs.Tables.{block_filled}
use Rattle.scaling_factors.proofs.block.lay_list.Goals as goal

pub returns : goal.returns
returns c =
    block_filled c.args.list.now c.args.log2 c.loop-k.block c.loop-k.invariant.count
    (λ k h. c.loop-k.invariant.told k (search rules))
