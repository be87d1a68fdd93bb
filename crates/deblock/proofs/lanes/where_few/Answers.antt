use Rattle.std.proofs.Common.{◌<◌, ◌+◌, arith, refl, ap, ◌∙◌}
use Rattle.std.proofs.Common.{Bool, cond, ltb}
use Rattle.deblock.specs.Lanes.{lane}
use Rattle.deblock.proofs.Vectors.{chosen, given, minus, most, splat, few_is}
use Rattle.deblock.proofs.lanes.where_few.Goals as goal

pub returns-clause-long : goal.returns-clause-long
returns-clause-long c =
    let lt : 0 < 4 = omega arith in
    let n = c.requires.few 0 lt in
    let v = given c.fits-changes.0 refl in
    let d = minus lt (splat lt 2097152) v (omega arith) (omega (arith, n)) in
    let l = chosen lt ltb (most lt v d) (splat lt (1048576 + c.args.bound)) (given c.fits-numbers.0 refl)
    (given c.fits-others.0 refl) _ refl in
    l.long

pub returns-clause-value : goal.returns-clause-value
returns-clause-value c k lt =
    let n = c.requires.few k lt in
    let v = given c.fits-changes.0 refl in
    let d = minus lt (splat lt 2097152) v (omega arith) (omega (arith, n)) in
    let l = chosen lt ltb (most lt v d) (splat lt (1048576 + c.args.bound)) (given c.fits-numbers.0 refl)
    (given c.fits-others.0 refl) _ refl in
    l.is ∙ ap (λ (b : Bool). cond b (lane c.args.numbers k) (lane c.args.others k)) (few_is _ _ n)
