use Rattle.std.proofs.Common.{◌≡◌, ℕ, ◌==◌, ◌&&◌, cond, nat_le, nat_lt}
use Rattle.ctu_motion.specs.Held.{held, held_beneath}
use Rattle.picture_motion.specs.Units.{at_border}
use Rattle.picture_motion.proofs.beside.gather_left.Given as goal

abbrev pub invariant-loop-row : goal.invariant-loop-row
invariant-loop-row g l = record {
  places : (i j : ℕ)
      → held l.motion i j
      ≡ cond (i == 0 && (nat_le 1 j && nat_lt j l.row)) (at_border l.unit (g.B.MotionBeside.motion_at l.beside) 0 j)
      (held l.fn.motion i j);
  beneath : held_beneath l.motion ≡ held_beneath l.fn.motion;
}
