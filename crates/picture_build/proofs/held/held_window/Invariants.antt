use Rattle.std.proofs.Common.{◌≡◌, ◌<◌, ℕ, ℤ, ◌+◌, ◌*◌, pos, ◌+ℤ◌}
use Rattle.std.specs.List.{All}
use Rattle.inter_pred.specs.Passes.{at, IsByte}
use Rattle.picture_build.specs.Referring.{held_sample}
use Rattle.picture_build.proofs.held.held_window.Given as goal

abbrev pub invariant-loop-j : goal.invariant-loop-j
invariant-loop-j l = record {
  value : (i j : ℕ) → i < l.from.width → j < l.j
      → at l.out (72 * j + i) ≡ held_sample l.planes l.c l.greatest (l.from.x +ℤ pos i) (l.from.y +ℤ pos j);
  bytes : ((x y : ℤ) → held_sample l.planes l.c l.greatest x y < 256) → All IsByte l.fn.out → All IsByte l.out;
}
