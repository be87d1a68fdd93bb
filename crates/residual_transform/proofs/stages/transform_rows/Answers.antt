use Rattle.std.proofs.Common.{ℕ, ◌≡◌, ◌+◌, ◌*◌, ◌<◌, ◌*ℤ◌, ◌∙◌, ap, ℤ, pos, arith, below_more}
use Rattle.std.proofs.lemmas.Nat.{rows}
use Rattle.std.proofs.lemmas.List.Elements.{All-from_get_or}
use Rattle.spec_arithmetic.specs.Sums.{int_sum_below}
use Rattle.spec_transforms.specs.Matrices.{matrix_in}
use Rattle.spec_transforms.specs.Transforms.{IsResidual, block_in, residual_of}
use Rattle.residual_transform.proofs.Bounds.{one_more_line}
use Rattle.residual_transform.proofs.stages.transform_rows.Goals as goal

pub loop-line-preserved : goal.loop-line-preserved
loop-line-preserved g c = record {
  told = λ x y inside h. below_more
      (λ y. (x : ℕ) → x < g.row.SIZE
      → block_in g.row.SIZE c.store_residuals.new.out x y
      ≡ residual_of c.args.depth (int_sum_below c.args.columns
      (λ k. matrix_in c.args.matrix.now.entries.now c.args.matrix.now.stride k x *ℤ block_in g.row.SIZE c.args.g.now
      y k)))
      c.loop-line.line
      (λ k below x inside.
      let earlier : g.row.SIZE * k + x < g.row.SIZE * c.loop-line.line = grind (arith, rows) in
      c.store_residuals.ensures.before _ earlier ∙ c.loop-line.invariant.told x k inside below)
      (λ x inside. c.store_residuals.ensures.here x inside
      ∙ ap (λ (z : ℤ). residual_of c.args.depth z) (c.sums_of-sums.ensures.value x inside))
      y h x inside;
  small =
      one_more_line g.row.SIZE c.loop-line.line c.store_residuals.new.out c.loop-line.out
      c.store_residuals.ensures.before c.store_residuals.ensures.small c.loop-line.invariant.small;
}

pub returns-clause-small : goal.returns-clause-small
returns-clause-small g c =
    All-from_get_or IsResidual c.loop-line.out (pos 0) (λ k h. c.loop-line.invariant.small k
    (let s : c.loop-line.line ≡ g.row.SIZE = omega arith in
    rw s (omega (arith, c.requires.room, c.loop-line.auto.out, h))))
