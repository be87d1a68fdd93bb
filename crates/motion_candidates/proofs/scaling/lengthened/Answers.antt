use Rattle.std.proofs.Common.{◌≤◌, refl, arith}
use Rattle.std.specs.Int.RustNames.{unsigned_abs}
use Rattle.std.proofs.lemmas.Int.{ints}
use Rattle.motion_candidates.proofs.Products.{product_is, product_low, product_high}
use Rattle.motion_candidates.proofs.scaling.lengthened.Goals as goal

pub returns-clause-value : goal.returns-clause-value
returns-clause-value c =
    let p : unsigned_abs c.args.factor ≤ 4096 = omega (arith, ints) in
    let q : unsigned_abs c.args.component ≤ 32768 = omega (arith, ints) in
    product_is c.args.factor c.args.component 4096 32768 p q (omega arith) (omega arith) (omega arith)

pub returns-clause-least : goal.returns-clause-least
returns-clause-least c =
    let p : unsigned_abs c.args.factor ≤ 4096 = omega (arith, ints) in
    let q : unsigned_abs c.args.component ≤ 32768 = omega (arith, ints) in
    product_low c.args.factor c.args.component 4096 32768 _ p q refl (omega arith) (omega arith) (omega arith)

pub returns-clause-greatest : goal.returns-clause-greatest
returns-clause-greatest c =
    let p : unsigned_abs c.args.factor ≤ 4096 = omega (arith, ints) in
    let q : unsigned_abs c.args.component ≤ 32768 = omega (arith, ints) in
    product_high c.args.factor c.args.component 4096 32768 _ p q refl (omega arith) (omega arith) (omega arith)
