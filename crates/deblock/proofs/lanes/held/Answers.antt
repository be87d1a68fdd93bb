use Rattle.std.proofs.Common.{◌<◌, arith, refl, ◌∙◌}
use Rattle.deblock.proofs.Vectors.{given, least, minus, most, plus, splat, held_is}
use Rattle.deblock.proofs.lanes.held.Goals as goal

pub returns-clause-long : goal.returns-clause-long
returns-clause-long c =
    let lt : 0 < 4 = omega arith in
    let s = given c.fits-samples.0 refl in
    let r = splat lt c.args.reach in
    let small = c.requires.samples 0 lt in
    let l = most lt (least lt (given c.fits-values.0 refl) (plus lt s r (omega (arith, small, c.requires.reach))))
    (minus lt (most lt s r) r (omega (arith, small, c.requires.reach)) (omega arith)) in
    l.long

pub returns-clause-value : goal.returns-clause-value
returns-clause-value c k lt =
    let s = given c.fits-samples.0 refl in
    let r = splat lt c.args.reach in
    let small = c.requires.samples k lt in
    let l = most lt (least lt (given c.fits-values.0 refl) (plus lt s r (omega (arith, small, c.requires.reach))))
    (minus lt (most lt s r) r (omega (arith, small, c.requires.reach)) (omega arith)) in
    l.is ∙ held_is _ _ _
