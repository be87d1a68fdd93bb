use Rattle.boundary_strengths.proofs.Cells.{small_side}
use Rattle.boundary_strengths.proofs.laying.side.Goals as goal

pub returns-then-log2_size-lt4 : goal.returns-then-log2_size-lt4
returns-then-log2_size-lt4 c = small_side c.args.log2_size c.if-log2_size-lt4.true
