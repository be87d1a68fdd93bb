use Rattle.std.proofs.Common.{◌<◌, arith, refl, ap, ◌∙◌}
use Rattle.std.proofs.Common.{ℕ, pos, ◌-ℤ◌}
use Rattle.deblock.proofs.Vectors.{given, minus, plus, shifted, splat, half_is}
use Rattle.deblock.proofs.lanes.half_steps.Goals as goal

pub returns-clause-long : goal.returns-clause-long
returns-clause-long c =
    let lt : 0 < 4 = omega arith in
    let o = c.requires.samples.0 0 lt in
    let m = c.requires.samples.1 0 lt in
    let i = c.requires.samples.2 0 lt in
    let n = c.requires.near 0 lt in
    let s1 = plus lt (given c.fits-outer.0 refl) (given c.fits-inner.0 refl) (omega (arith, o, i)) in
    let s2 = plus lt s1 (splat lt 1) (omega (arith, o, i)) in
    let s3 = shifted lt 1 2 refl s2 in
    let s4 = plus lt s3 (given c.fits-changes.0 refl) (omega (arith, o, i, n.1)) in
    let s5 = minus lt s4 (given c.fits-middle.0 refl) (omega (arith, o, i, n.1)) (omega (arith, n.0, m)) in
    let l = shifted lt 1 2 refl s5 in
    l.long

pub returns-clause-value : goal.returns-clause-value
returns-clause-value c k lt =
    let o = c.requires.samples.0 k lt in
    let m = c.requires.samples.1 k lt in
    let i = c.requires.samples.2 k lt in
    let n = c.requires.near k lt in
    let s1 = plus lt (given c.fits-outer.0 refl) (given c.fits-inner.0 refl) (omega (arith, o, i)) in
    let s2 = plus lt s1 (splat lt 1) (omega (arith, o, i)) in
    let s3 = shifted lt 1 2 refl s2 in
    let s4 = plus lt s3 (given c.fits-changes.0 refl) (omega (arith, o, i, n.1)) in
    let s5 = minus lt s4 (given c.fits-middle.0 refl) (omega (arith, o, i, n.1)) (omega (arith, n.0, m)) in
    let l = shifted lt 1 2 refl s5 in
    ap (λ (n : ℕ). pos n -ℤ pos 524288) l.is ∙ half_is _ _ _ m n.0
