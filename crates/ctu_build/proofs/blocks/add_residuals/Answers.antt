use Rattle.std.proofs.Common.{rules, refl}
use Rattle.ctu_build.proofs.Squares.{scaled_constructed}
use Rattle.ctu_build.proofs.blocks.add_residuals.Goals as goal

pub returns : goal.returns
returns c =
    let a = c.args in
    scaled_constructed a.format.now a.coded.mode a.coded.block a.coded.qp _ a.items.now _ _ _ _ _ _ _
    c.add.ensures c.place_of-place.ensures.value c.depth_of-depth.ensures.value c.requires.bypass
    refl (search rules) c.parameter_of-qp.ensures.value c.residuals_of.ensures.value
