use Rattle.std.proofs.Common.{◌≤◌, refl, arith}
use Rattle.std.specs.Int.RustNames.{unsigned_abs}
use Rattle.std.proofs.lemmas.Int.{ints}
use Rattle.motion_candidates.proofs.Products.{product_is, product_low, product_high}
use Rattle.motion_candidates.proofs.scaling.weighted.Goals as goal

pub returns-clause-value : goal.returns-clause-value
returns-clause-value c =
    let p : unsigned_abs c.args.tb ≤ 128 = omega (arith, ints) in
    let q : unsigned_abs c.args.tx ≤ 16448 = omega (arith, ints) in
    product_is c.args.tb c.args.tx 128 16448 p q (omega arith) (omega arith) (omega arith)

pub returns-clause-low : goal.returns-clause-low
returns-clause-low c =
    let p : unsigned_abs c.args.tb ≤ 128 = omega (arith, ints) in
    let q : unsigned_abs c.args.tx ≤ 16448 = omega (arith, ints) in
    product_low c.args.tb c.args.tx 128 16448 _ p q refl (omega arith) (omega arith) (omega arith)

pub returns-clause-high : goal.returns-clause-high
returns-clause-high c =
    let p : unsigned_abs c.args.tb ≤ 128 = omega (arith, ints) in
    let q : unsigned_abs c.args.tx ≤ 16448 = omega (arith, ints) in
    product_high c.args.tb c.args.tx 128 16448 _ p q refl (omega arith) (omega arith) (omega arith)
