use Rattle.std.proofs.Common.{refl}
use Rattle.ctu_motion.proofs.Cells.{nothing_held}
use Rattle.ctu_motion.proofs.unit_motion.UnitMotion.new.Goals as goal

pub returns-clause-places : goal.returns-clause-places
returns-clause-places c = nothing_held _ refl
