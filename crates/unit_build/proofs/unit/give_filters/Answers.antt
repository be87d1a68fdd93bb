use Rattle.std.proofs.Common.{refl}
use Rattle.picture_motion.specs.CtuMotion.{held as motion_held}
use Rattle.unit_build.specs.Near.{motion_behind}
use Rattle.unit_build.proofs.unit.give_filters.Goals as goal

pub returns : goal.returns
returns g c = λ placed few.
    c.unit_filters.ensures placed few
    (motion_behind c.args.near.now.unit.now c.args.near.now.slice.now (motion_held c.args.near.now.motion.now)
    (g.B.MotionBeside.motion_at c.args.near.now.beside.now))
    (g.B.Beside.coded_at c.args.near.now.beside.now) refl c.coded_beside-coded.ensures.left
    c.coded_beside-coded.ensures.above
