use Rattle.std.proofs.Common.{rules}
use Rattle.scaling_factors.proofs.Tables.{table_filled}
use Rattle.scaling_factors.proofs.table.listed_factors.Goals as goal

pub returns : goal.returns
returns c =
    table_filled c.args.lists.now c.args.intra _ _ _ _ (search rules) c.lay_size.ensures.value
    c.lay_size-2.ensures.value c.lay_size-3.ensures.value c.lay_block.ensures.value
