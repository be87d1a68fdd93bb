use Rattle.std.proofs.Common.{rules}
use Rattle.ctu_build.proofs.Squares.{bypass_constructed}
use Rattle.ctu_build.proofs.blocks.add_levels.Goals as goal

pub returns : goal.returns
returns c =
    let a = c.args in
    bypass_constructed a.format.now a.coded.mode a.coded.block a.coded.qp a.items.now _ _ _ _ _ _
    c.add.ensures c.place_of-place.ensures.value c.depth_of-depth.ensures.value c.requires.bypass
    c.read_levels.ensures.value (search rules)
