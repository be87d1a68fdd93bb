use Rattle.std.proofs.Common.{ℕ, ◌≡◌, ◌+◌, ◌*◌, ◌<◌, ◌*ℤ◌, ◌∙◌, ap, ℤ, arith, below_more}
use Rattle.std.proofs.lemmas.Nat.{rows}
use Rattle.spec_arithmetic.specs.Rounding.{rounded}
use Rattle.spec_arithmetic.specs.Sums.{int_sum_below}
use Rattle.spec_transforms.specs.Matrices.{at, matrix_in}
use Rattle.spec_transforms.specs.Scaling.{clip16}
use Rattle.spec_transforms.specs.Transforms.{block_in}
use Rattle.residual_transform.proofs.stages.transform_columns.Goals as goal

pub loop-column-preserved : goal.loop-column-preserved
loop-column-preserved g c = record {
  told = λ x y h inside. below_more
      (λ x. (y : ℕ) → y < g.row.SIZE
      → block_in g.row.SIZE c.store_held.new.out y x
      ≡ clip16 (rounded 7 (int_sum_below c.args.filled.rows
      (λ k. matrix_in c.args.matrix.now.entries.now c.args.matrix.now.stride k y *ℤ at c.args.d.now
      (g.row.SIZE * k + x)))))
      c.loop-column.column
      (λ k below y inside.
      let earlier : g.row.SIZE * k + y < g.row.SIZE * c.loop-column.column = grind (arith, rows) in
      c.store_held.ensures.before _ earlier ∙ c.loop-column.invariant.told k y below inside)
      (λ y inside. c.store_held.ensures.here y inside
      ∙ ap (λ (z : ℤ). clip16 (rounded 7 z)) (c.sums_of-sums.ensures.value y inside))
      x h y inside;
  small = c.store_held.ensures.small;
}
