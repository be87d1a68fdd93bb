use Rattle.std.proofs.Common.{◌≡◌, ℕ, ◌+◌, ◌*◌, ◌<◌, ◌*ℤ◌}
use Rattle.std.specs.List.{All}
use Rattle.spec_arithmetic.specs.Rounding.{rounded}
use Rattle.spec_arithmetic.specs.Sums.{int_sum_below}
use Rattle.spec_transforms.specs.Matrices.{at, matrix_in}
use Rattle.spec_transforms.specs.Scaling.{Is16, clip16}
use Rattle.spec_transforms.specs.Transforms.{block_in}
use Rattle.residual_transform.proofs.stages.transform_columns.Given as goal

abbrev pub invariant-loop-column : goal.invariant-loop-column
invariant-loop-column g l = record {
  told : (x y : ℕ) → x < l.column → y < g.row.SIZE
      → block_in g.row.SIZE l.out y x
      ≡ clip16 (rounded 7 (int_sum_below l.filled.rows
      (λ k. matrix_in l.matrix.entries.now l.matrix.stride k y *ℤ at l.d (g.row.SIZE * k + x))));
  small : All Is16 l.out;
}
