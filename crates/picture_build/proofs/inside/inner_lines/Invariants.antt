use Rattle.std.proofs.Common.{◌≡◌, ◌<◌, ℕ, ℤ, ◌+◌, ◌*◌, pos, ◌+ℤ◌}
use Rattle.std.specs.List.{All}
use Rattle.inter_pred.specs.Passes.{at, IsByte}
use Rattle.picture_build.specs.Referring.{held_sample}
use Rattle.picture_build.proofs.inside.inner_lines.Given as goal

abbrev pub invariant-loop-j : goal.invariant-loop-j
invariant-loop-j g l = record {
  value : (i j : ℕ) → i < l.fn.from.width → j < l.j
      → at l.out (72 * j + i) ≡ held_sample l.planes l.c l.greatest (l.fn.from.x +ℤ pos i) (l.fn.from.y +ℤ pos j);
  bytes : ((x y : ℤ) → held_sample l.planes l.c l.greatest x y < 256) → All IsByte l.fn.out → All IsByte l.out;
}
