use Rattle.std.proofs.Common.{◌≡◌, ℕ, ◌<◌, ◌≤◌, ◌+ℤ◌, ◌*ℤ◌, length}
use Rattle.spec_transforms.specs.Matrices.{at}
use Rattle.residual_transform.proofs.products.add_row.Given as goal

abbrev pub invariant-loop-j : goal.invariant-loop-j
invariant-loop-j g l = record {
  done : (i : ℕ) → i < l.j → at l.sums i ≡ at l.fn.sums i +ℤ at l.row i *ℤ l.coefficient;
  rest : (i : ℕ) → l.j ≤ i → at l.sums i ≡ at l.fn.sums i;
  long : length l.sums ≡ g.row.SIZE;
}
