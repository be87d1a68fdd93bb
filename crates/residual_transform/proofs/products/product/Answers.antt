use Rattle.residual_transform.proofs.Bounds.{product_is, product_within}
use Rattle.residual_transform.proofs.products.product.Goals as goal

pub returns-clause-value : goal.returns-clause-value
returns-clause-value c = product_is c.args.entry c.args.coefficient c.requires.entry c.requires.coefficient

pub returns-clause-low : goal.returns-clause-low
returns-clause-low c =
    rw (product_is c.args.entry c.args.coefficient c.requires.entry c.requires.coefficient)
    (product_within c.args.entry c.args.coefficient c.requires.entry c.requires.coefficient).0

pub returns-clause-high : goal.returns-clause-high
returns-clause-high c =
    rw (product_is c.args.entry c.args.coefficient c.requires.entry c.requires.coefficient)
    (product_within c.args.entry c.args.coefficient c.requires.entry c.requires.coefficient).1
