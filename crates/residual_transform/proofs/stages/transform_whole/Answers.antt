use Rattle.std.proofs.Common.{◌∙◌, ap, ℤ, arith}
use Rattle.spec_transforms.specs.Transforms.{residual_of}
use Rattle.residual_transform.proofs.Fewer.{all_rows}
use Rattle.residual_transform.proofs.stages.transform_whole.Goals as goal

pub returns-clause-value : goal.returns-clause-value
returns-clause-value g c x y inside below =
    c.transform_rows.ensures.value x y inside below
    ∙ ap (λ (z : ℤ). residual_of c.args.depth z)
    (all_rows _ g.row.SIZE c.args.d.now _ x y below (λ x y inside.
    c.transform_columns.ensures.value x y (omega (arith, inside, c.requires.same))))
