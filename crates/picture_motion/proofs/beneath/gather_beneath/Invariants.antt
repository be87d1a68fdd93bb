use Rattle.std.proofs.Common.{◌≡◌, ℕ, ◌*◌, ◌&&◌, cond, nat_le, nat_lt}
use Rattle.ctu_motion.specs.Held.{held, held_beneath}
use Rattle.spec_picture_motion.specs.Field.{beneath_unit}
use Rattle.spec_picture_motion.specs.SpecPictureTrees.{unit_places}
use Rattle.picture_motion.proofs.beneath.gather_beneath.Given as goal

abbrev pub invariant-loop-row : goal.invariant-loop-row
invariant-loop-row g l = record {
  places : held l.motion ≡ held l.fn.motion;
  beneath : (i j : ℕ)
      → held_beneath l.motion i j
      ≡ cond (nat_le (4 * i) (unit_places l.unit.layout) && nat_lt j l.row)
      (beneath_unit l.unit.layout l.unit.address (g.B.MotionBeneath.collocated_at l.beneath) i j)
      (held_beneath l.fn.motion i j);
}
