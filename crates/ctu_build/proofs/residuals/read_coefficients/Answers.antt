use Rattle.std.proofs.Common.{rules}
use Rattle.ctu_build.proofs.LevelItems.{scaled_behind}
use Rattle.ctu_build.proofs.residuals.read_coefficients.Goals as goal

pub returns-clause-value : goal.returns-clause-value
returns-clause-value c =
    scaled_behind c.args.format.now c.args.coded.mode c.args.coded.block.component c.args.coded.block.log2_size
    c.args.coded.qp _ _ c.factors_of-factors.result.now c.args.items.now _ c.requires.count
    (search rules) c.depth_of-depth.ensures.depth c.depth_of-depth.ensures.value
    (rw c.from-log2.ensures at c.factors_of-factors.ensures.value)
    (c.read_scaled.ensures.value _ _ _ c.scaling_of-scaling.ensures.quantizer
    (rw c.from-log2.ensures at c.scaling_of-scaling.ensures.shift))
