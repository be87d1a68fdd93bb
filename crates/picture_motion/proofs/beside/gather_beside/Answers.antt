use Rattle.picture_motion.proofs.Gathered.{gathered}
use Rattle.picture_motion.proofs.beside.gather_beside.Goals as goal

pub returns-clause-places : goal.returns-clause-places
returns-clause-places g c =
    gathered c.args.unit.now (g.B.MotionBeside.motion_at c.args.beside.now) _ _ _ c.restart.ensures.places
    c.gather_above.ensures.places
    c.gather_left.ensures.places
