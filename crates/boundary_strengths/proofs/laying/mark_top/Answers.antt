use Rattle.std.proofs.Common.{◌∙◌, false}
use Rattle.boundary_strengths.proofs.Cells.{top_is}
use Rattle.boundary_strengths.proofs.laying.mark_top.Goals as goal

pub returns : goal.returns
returns c i j hi hj =
    c.lay_block.ensures i j false hi hj ∙ top_is c.args.block.x c.args.block.y c.args.block.width i j _
