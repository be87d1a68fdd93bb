use Rattle.std.proofs.Common.{◌≡◌, ℕ, ◌==◌, ◌&&◌, cond, nat_lt}
use Rattle.ctu_motion.specs.Held.{held, held_beneath}
use Rattle.picture_motion.specs.Units.{at_border}
use Rattle.picture_motion.proofs.beside.gather_above.Given as goal

abbrev pub invariant-loop-column : goal.invariant-loop-column
invariant-loop-column g l = record {
  places : (i j : ℕ)
      → held l.motion i j
      ≡ cond (j == 0 && nat_lt i l.column) (at_border l.unit (g.B.MotionBeside.motion_at l.beside) i 0)
      (held l.fn.motion i j);
  beneath : held_beneath l.motion ≡ held_beneath l.fn.motion;
}
