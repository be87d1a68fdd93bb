use Rattle.std.proofs.Common.{◌≡◌, ℕ, ◌+◌, ◌*◌, ◌<◌, ◌*ℤ◌}
use Rattle.spec_arithmetic.specs.Sums.{int_sum_below}
use Rattle.spec_transforms.specs.Matrices.{at, matrix_in}
use Rattle.residual_transform.proofs.products.column_sums.Given as goal

abbrev pub invariant-loop-k : goal.invariant-loop-k
invariant-loop-k g l = record {
  told : (j : ℕ) → j < g.row.SIZE
      → at l.sums j
      ≡ int_sum_below l.k
      (λ k. matrix_in l.matrix.entries.now l.matrix.stride k j *ℤ at l.values (g.row.SIZE * k + l.column));
}
