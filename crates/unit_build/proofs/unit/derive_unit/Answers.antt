use Rattle.unit_build.proofs.Joined.{motion_is}
use Rattle.picture_motion.specs.CtuMotion.{held as motion_held}
use Rattle.unit_build.proofs.unit.derive_unit.Goals as goal

pub returns-clause-motion : goal.returns-clause-motion
returns-clause-motion g c = λ placed.
    motion_is (g.B.MotionBeneath.collocated_at c.args.beside.now) (g.B.MotionBeside.motion_at c.args.beside.now)
    c.args.source.now.plan.now c.args.source.now.segment.now c.unit-unit.result
    (g.B.Beside.unit_of c.args.beside.now) c.slice_motion-built.result c.args.records.now.items
    (motion_held c.derive_over.new.motion) c.unit-unit.ensures c.requires.unit c.slice_motion-built.ensures
    (c.derive_over.ensures placed)
