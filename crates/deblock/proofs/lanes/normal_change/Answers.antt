use Rattle.std.proofs.Common.{◌<◌, arith, refl, ap, ◌∙◌}
use Rattle.std.proofs.Common.{ℕ, pos, ◌-ℤ◌}
use Rattle.deblock.proofs.Vectors.{given, minus, plus, shifted, splat, times, change_is}
use Rattle.deblock.proofs.lanes.normal_change.Goals as goal

pub returns-clause-long : goal.returns-clause-long
returns-clause-long c =
    let lt : 0 < 4 = omega arith in
    let p1 = given c.fits-p1.0 refl in
    let p0 = given c.fits-p0.0 refl in
    let q0 = given c.fits-q0.0 refl in
    let q1 = given c.fits-q1.0 refl in
    let b1 = c.requires.before.0 0 lt in
    let b2 = c.requires.before.1 0 lt in
    let b3 = c.requires.behind.0 0 lt in
    let b4 = c.requires.behind.1 0 lt in
    let u1 = times lt (splat lt 9) q0 (omega (arith, b3)) in
    let u2 = times lt (splat lt 3) p1 (omega (arith, b1)) in
    let u3 = plus lt u1 u2 (omega (arith, b1, b3)) in
    let u4 = plus lt u3 (splat lt 16777224) (omega (arith, b1, b3)) in
    let d1 = times lt (splat lt 9) p0 (omega (arith, b2)) in
    let d2 = times lt (splat lt 3) q1 (omega (arith, b4)) in
    let d3 = plus lt d1 d2 (omega (arith, b2, b4)) in
    let l = shifted lt 4 16 refl (minus lt u4 d3 (omega (arith, b1, b3)) (omega (arith, b1, b2, b3, b4))) in
    l.long

pub returns-clause-value : goal.returns-clause-value
returns-clause-value c k lt =
    let p1 = given c.fits-p1.0 refl in
    let p0 = given c.fits-p0.0 refl in
    let q0 = given c.fits-q0.0 refl in
    let q1 = given c.fits-q1.0 refl in
    let b1 = c.requires.before.0 k lt in
    let b2 = c.requires.before.1 k lt in
    let b3 = c.requires.behind.0 k lt in
    let b4 = c.requires.behind.1 k lt in
    let u1 = times lt (splat lt 9) q0 (omega (arith, b3)) in
    let u2 = times lt (splat lt 3) p1 (omega (arith, b1)) in
    let u3 = plus lt u1 u2 (omega (arith, b1, b3)) in
    let u4 = plus lt u3 (splat lt 16777224) (omega (arith, b1, b3)) in
    let d1 = times lt (splat lt 9) p0 (omega (arith, b2)) in
    let d2 = times lt (splat lt 3) q1 (omega (arith, b4)) in
    let d3 = plus lt d1 d2 (omega (arith, b2, b4)) in
    let l = shifted lt 4 16 refl (minus lt u4 d3 (omega (arith, b1, b3)) (omega (arith, b1, b2, b3, b4))) in
    ap (λ (n : ℕ). pos n -ℤ pos 1048576) l.is ∙ change_is _ _ _ _ b1 b2 b3 b4

pub returns-clause-few : goal.returns-clause-few
returns-clause-few c k lt =
    let p1 = given c.fits-p1.0 refl in
    let p0 = given c.fits-p0.0 refl in
    let q0 = given c.fits-q0.0 refl in
    let q1 = given c.fits-q1.0 refl in
    let b1 = c.requires.before.0 k lt in
    let b2 = c.requires.before.1 k lt in
    let b3 = c.requires.behind.0 k lt in
    let b4 = c.requires.behind.1 k lt in
    let u1 = times lt (splat lt 9) q0 (omega (arith, b3)) in
    let u2 = times lt (splat lt 3) p1 (omega (arith, b1)) in
    let u3 = plus lt u1 u2 (omega (arith, b1, b3)) in
    let u4 = plus lt u3 (splat lt 16777224) (omega (arith, b1, b3)) in
    let d1 = times lt (splat lt 9) p0 (omega (arith, b2)) in
    let d2 = times lt (splat lt 3) q1 (omega (arith, b4)) in
    let d3 = plus lt d1 d2 (omega (arith, b2, b4)) in
    let l = shifted lt 4 16 refl (minus lt u4 d3 (omega (arith, b1, b3)) (omega (arith, b1, b2, b3, b4))) in
    omega (arith, l.is, b1, b2, b3, b4)
