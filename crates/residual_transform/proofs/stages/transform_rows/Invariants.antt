use Rattle.std.proofs.Common.{◌≡◌, ℕ, ◌*◌, ◌<◌, ◌*ℤ◌}
use Rattle.spec_arithmetic.specs.Sums.{int_sum_below}
use Rattle.spec_transforms.specs.Matrices.{at, matrix_in}
use Rattle.spec_transforms.specs.Transforms.{IsResidual, block_in, residual_of}
use Rattle.residual_transform.proofs.stages.transform_rows.Given as goal

abbrev pub invariant-loop-line : goal.invariant-loop-line
invariant-loop-line g l = record {
  told : (x y : ℕ) → x < g.row.SIZE → y < l.line
      → block_in g.row.SIZE l.out x y
      ≡ residual_of l.depth (int_sum_below l.columns
      (λ k. matrix_in l.matrix.entries.now l.matrix.stride k x *ℤ block_in g.row.SIZE l.g y k));
  small : (i : ℕ) → i < g.row.SIZE * l.line → IsResidual (at l.out i);
}
