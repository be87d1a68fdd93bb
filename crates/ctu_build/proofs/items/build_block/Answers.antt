use Rattle.ctu_build.proofs.Steps.{block_built}
use Rattle.ctu_build.proofs.items.build_block.Goals as goal

pub returns-then-is_coded : goal.returns-then-is_coded
returns-then-is_coded c all sound =
    block_built c.args.source.now.format.now c.args.source.now.records.now.items c.args.coding.mode _ c.args.block
    c.args.behind.now _ _
    c.construct.ensures c.in_unit-coded.ensures.block c.in_unit-coded.ensures.mode
    (c.in_unit-coded.ensures.qp (all.parameters _ _))
