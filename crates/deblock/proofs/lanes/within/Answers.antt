use Rattle.std.proofs.Common.{◌<◌, ◌+◌, ◌-◌, arith, refl, ap, ◌∙◌}
use Rattle.std.proofs.Common.{ℕ, pos, ◌-ℤ◌}
use Rattle.deblock.proofs.Vectors.{given, least, most, splat, within_is}
use Rattle.deblock.proofs.lanes.within.Goals as goal

pub returns-clause-long : goal.returns-clause-long
returns-clause-long c =
    let lt : 0 < 4 = omega arith in
    let l = most lt (least lt (given c.fits-changes.0 refl) (splat lt (c.args.base + c.args.reach)))
    (splat lt (c.args.base - c.args.reach)) in
    l.long

pub returns-clause-value : goal.returns-clause-value
returns-clause-value c k lt =
    let l = most lt (least lt (given c.fits-changes.0 refl) (splat lt (c.args.base + c.args.reach)))
    (splat lt (c.args.base - c.args.reach)) in
    ap (λ (n : ℕ). pos n -ℤ pos c.args.base) l.is ∙ within_is _ _ _ c.requires.reach c.requires.low

pub returns-clause-near : goal.returns-clause-near
returns-clause-near c k lt =
    let l = most lt (least lt (given c.fits-changes.0 refl) (splat lt (c.args.base + c.args.reach)))
    (splat lt (c.args.base - c.args.reach)) in
    (omega (arith, l.is, c.requires.reach), omega (arith, l.is, c.requires.reach))
