use Rattle.std.proofs.Common.{◌∙◌, ap, ℤ}
use Rattle.spec_transforms.specs.Transforms.{residual_of}
use Rattle.residual_transform.proofs.Fewer.{both_fewer}
use Rattle.residual_transform.proofs.stages.transform.Goals as goal

pub returns-clause-value : goal.returns-clause-value
returns-clause-value g c x y inside below =
    c.transform_rows.ensures.value x y inside below
    ∙ ap (λ (z : ℤ). residual_of c.args.depth z)
    (both_fewer _ g.row.SIZE c.filled_rows-rows.result c.filled_columns-columns.result c.args.d.now _ x y
    c.filled_rows-rows.ensures.count c.filled_columns-columns.ensures.count below
    c.filled_rows-rows.ensures.value c.filled_columns-columns.ensures.value c.transform_columns.ensures.value)
