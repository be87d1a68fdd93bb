use Rattle.std.proofs.Common.{◌<◌, arith, refl, ◌∙◌}
use Rattle.deblock.proofs.Vectors.{given, least, minus, most, plus, splat, moved_is}
use Rattle.deblock.proofs.lanes.moved.Goals as goal

pub returns-clause-long : goal.returns-clause-long
returns-clause-long c =
    let lt : 0 < 4 = omega arith in
    let b = c.requires.samples 0 lt in
    let n = c.requires.near 0 lt in
    let s = plus lt (given c.fits-samples.0 refl) (given c.fits-changes.0 refl)
    (omega (arith, b, n.1, c.requires.high)) in
    let z = splat lt c.args.base in
    let m = minus lt (most lt s z) z (omega (arith, b, n.1, c.requires.high)) (omega arith) in
    let l = least lt m (splat lt c.args.greatest) in
    l.long

pub returns-clause-value : goal.returns-clause-value
returns-clause-value c k lt =
    let b = c.requires.samples k lt in
    let n = c.requires.near k lt in
    let s = plus lt (given c.fits-samples.0 refl) (given c.fits-changes.0 refl)
    (omega (arith, b, n.1, c.requires.high)) in
    let z = splat lt c.args.base in
    let m = minus lt (most lt s z) z (omega (arith, b, n.1, c.requires.high)) (omega arith) in
    let l = least lt m (splat lt c.args.greatest) in
    l.is ∙ moved_is _ _ _ _
