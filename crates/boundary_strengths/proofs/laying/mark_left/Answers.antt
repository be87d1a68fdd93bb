use Rattle.std.proofs.Common.{◌∙◌, false}
use Rattle.boundary_strengths.proofs.Cells.{left_is}
use Rattle.boundary_strengths.proofs.laying.mark_left.Goals as goal

pub returns : goal.returns
returns c i j hi hj =
    c.lay_block.ensures i j false hi hj ∙ left_is c.args.block.x c.args.block.y c.args.block.height i j _
