use Rattle.std.proofs.Common.{◌≡◌, ℕ, ◌==◌, ◌&&◌, cond, nat_lt}
use Rattle.ctu_motion.specs.Held.{held, held_beneath}
use Rattle.spec_picture_motion.specs.Field.{beneath_unit}
use Rattle.picture_motion.proofs.beneath.gather_row.Given as goal

abbrev pub invariant-loop-column : goal.invariant-loop-column
invariant-loop-column g l = record {
  places : held l.motion ≡ held l.fn.motion;
  beneath : (i j : ℕ)
      → held_beneath l.motion i j
      ≡ cond (j == l.row && nat_lt i l.column)
      (beneath_unit l.unit.layout l.unit.address (g.B.MotionBeneath.collocated_at l.beneath) i l.row)
      (held_beneath l.fn.motion i j);
}
