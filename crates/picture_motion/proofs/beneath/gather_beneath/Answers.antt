use Rattle.std.proofs.Common.{rules}
use Rattle.picture_motion.proofs.Blocks.{blocks_gathered}
use Rattle.picture_motion.proofs.beneath.gather_beneath.Goals as goal

pub returns-clause-beneath : goal.returns-clause-beneath
returns-clause-beneath g c = λ none.
    blocks_gathered c.args.unit.now.layout c.args.unit.now.address
    (g.B.MotionBeneath.collocated_at c.args.beneath.now) _
    _ none (search rules)
