use Rattle.std.proofs.Common.{◌≡◌, ℕ, ◌-◌, ◌<◌, ◌+ℤ◌, ◌-ℤ◌, length}
use Rattle.spec_transforms.specs.Matrices.{at}
use Rattle.residual_transform.proofs.halves.unfolded.Given as goal

abbrev pub invariant-loop-j : goal.invariant-loop-j
invariant-loop-j g l = record {
  front : (i : ℕ) → i < l.j → at l.sums i ≡ at l.even i +ℤ at l.odd i;
  back : (i : ℕ) → i < l.j → at l.sums (g.row.SIZE - 1 - i) ≡ at l.even i -ℤ at l.odd i;
  long : length l.sums ≡ g.row.SIZE;
}
