use Rattle.std.proofs.Common.{◌≡◌, ℕ, ◌-◌, ◌==◌, ◌&&◌, nat_le, Some, if◌then◌else◌}
use Rattle.ctu_build.specs.Held.{held}
use Rattle.unit_build.specs.Beside.{sample_at}
use Rattle.unit_build.proofs.beside.gather_left.Given as goal

abbrev pub invariant-loop-line : goal.invariant-loop-line
invariant-loop-line g l = record {
  told : (i j k : ℕ) → held l.samples i j k
      ≡ (if i == l.part.c && (j == 0 && (nat_le 1 k && (nat_le k l.line && nat_le k (l.part.height - l.part.y))))
      then Some (sample_at l.part (g.B.Beside.sample_at l.beside) i j k)
      else held l.fn.samples i j k);
}
