use Rattle.std.proofs.Common.{◌<◌, arith, refl, ap, ◌∙◌}
use Rattle.std.proofs.Common.{ℕ, pos, ◌-ℤ◌}
use Rattle.deblock.proofs.Vectors.{given, minus, splat, negated_is}
use Rattle.deblock.proofs.lanes.negated.Goals as goal

pub returns-clause-long : goal.returns-clause-long
returns-clause-long c =
    let lt : 0 < 4 = omega arith in
    let n = c.requires.near 0 lt in
    let l = minus lt (splat lt 2097152) (given c.fits-changes.0 refl) (omega arith) (omega (arith, n.1)) in
    l.long

pub returns-clause-value : goal.returns-clause-value
returns-clause-value c k lt =
    let n = c.requires.near k lt in
    let l = minus lt (splat lt 2097152) (given c.fits-changes.0 refl) (omega arith) (omega (arith, n.1)) in
    ap (λ (n : ℕ). pos n -ℤ pos 1048576) l.is ∙ negated_is _ (omega (arith, n.1))

pub returns-clause-near : goal.returns-clause-near
returns-clause-near c k lt =
    let n = c.requires.near k lt in
    let l = minus lt (splat lt 2097152) (given c.fits-changes.0 refl) (omega arith) (omega (arith, n.1)) in
    (omega (arith, l.is, n.0, n.1), omega (arith, l.is, n.0, n.1))
