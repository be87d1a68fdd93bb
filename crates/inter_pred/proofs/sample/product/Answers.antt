use Rattle.std.proofs.Common.{◌≤◌, arith}
use Rattle.std.specs.Int.RustNames.{unsigned_abs}
use Rattle.std.proofs.lemmas.Int.{ints}
use Rattle.inter_pred.proofs.Products.{product_is, product_within}
use Rattle.inter_pred.proofs.sample.product.Goals as goal

pub returns-clause-value : goal.returns-clause-value
returns-clause-value c =
    product_is c.args.p c.args.weight 262143 255 (omega (arith, ints)) (omega (arith, ints)) (omega arith)
    (omega (arith, ints)) (omega (arith, ints))

pub returns-clause-low : goal.returns-clause-low
returns-clause-low c =
    let p : unsigned_abs c.args.p ≤ 262143 = omega (arith, ints) in
    let q : unsigned_abs c.args.weight ≤ 255 = omega (arith, ints) in
    let w = product_within c.args.p c.args.weight 262143 255 p q in
    rw (product_is c.args.p c.args.weight 262143 255 p q (omega arith) (omega (arith, ints)) (omega (arith, ints)))
    (omega (arith, ints, w))

pub returns-clause-high : goal.returns-clause-high
returns-clause-high c =
    let p : unsigned_abs c.args.p ≤ 262143 = omega (arith, ints) in
    let q : unsigned_abs c.args.weight ≤ 255 = omega (arith, ints) in
    let w = product_within c.args.p c.args.weight 262143 255 p q in
    rw (product_is c.args.p c.args.weight 262143 255 p q (omega arith) (omega (arith, ints)) (omega (arith, ints)))
    (omega (arith, ints, w))
