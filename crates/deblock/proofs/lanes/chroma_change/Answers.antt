use Rattle.std.proofs.Common.{◌<◌, arith, refl, ap, ◌∙◌}
use Rattle.std.proofs.Common.{ℕ, pos, ◌-ℤ◌}
use Rattle.deblock.proofs.Vectors.{given, minus, plus, shifted, splat, times, chroma_change_is}
use Rattle.deblock.proofs.lanes.chroma_change.Goals as goal

pub returns-clause-long : goal.returns-clause-long
returns-clause-long c =
    let lt : 0 < 4 = omega arith in
    let p1 = given c.fits-p1.0 refl in
    let p0 = given c.fits-p0.0 refl in
    let q0 = given c.fits-q0.0 refl in
    let q1 = given c.fits-q1.0 refl in
    let b1 = c.requires.before.0 0 lt in
    let b2 = c.requires.before.1 0 lt in
    let b3 = c.requires.behind.0 0 lt in
    let b4 = c.requires.behind.1 0 lt in
    let u1 = times lt (splat lt 4) q0 (omega (arith, b3)) in
    let u2 = plus lt u1 p1 (omega (arith, b1, b3)) in
    let u3 = plus lt u2 (splat lt 8388612) (omega (arith, b1, b3)) in
    let d1 = times lt (splat lt 4) p0 (omega (arith, b2)) in
    let d2 = plus lt d1 q1 (omega (arith, b2, b4)) in
    let l = shifted lt 3 8 refl (minus lt u3 d2 (omega (arith, b1, b3)) (omega (arith, b1, b2, b3, b4))) in
    l.long

pub returns-clause-value : goal.returns-clause-value
returns-clause-value c k lt =
    let p1 = given c.fits-p1.0 refl in
    let p0 = given c.fits-p0.0 refl in
    let q0 = given c.fits-q0.0 refl in
    let q1 = given c.fits-q1.0 refl in
    let b1 = c.requires.before.0 k lt in
    let b2 = c.requires.before.1 k lt in
    let b3 = c.requires.behind.0 k lt in
    let b4 = c.requires.behind.1 k lt in
    let u1 = times lt (splat lt 4) q0 (omega (arith, b3)) in
    let u2 = plus lt u1 p1 (omega (arith, b1, b3)) in
    let u3 = plus lt u2 (splat lt 8388612) (omega (arith, b1, b3)) in
    let d1 = times lt (splat lt 4) p0 (omega (arith, b2)) in
    let d2 = plus lt d1 q1 (omega (arith, b2, b4)) in
    let l = shifted lt 3 8 refl (minus lt u3 d2 (omega (arith, b1, b3)) (omega (arith, b1, b2, b3, b4))) in
    ap (λ (n : ℕ). pos n -ℤ pos 1048576) l.is ∙ chroma_change_is _ _ _ _ b1 b2 b3 b4
