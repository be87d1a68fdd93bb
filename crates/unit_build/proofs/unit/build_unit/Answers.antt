use Rattle.std.proofs.Common.{ap, ◌∙◌}
use Rattle.picture_motion.specs.CtuMotion.{Cells, held as motion_held}
use Rattle.unit_build.proofs.unit.build_unit.Goals as goal

pub returns-clause-motion : goal.returns-clause-motion
returns-clause-motion g c = λ placed.
    ap (λ (m : Cells). motion_held m) c.fill_unit.ensures.motion ∙ c.derive_unit.ensures.motion placed
