use Rattle.std.proofs.Common.{◌<◌, arith, refl, ◌∙◌}
use Rattle.sao_filter.proofs.Lane.{fits_at, given, least, minus, plus, splat}
use Rattle.sao_filter.proofs.lanes.more.Goals as goal

pub returns-clause-long : goal.returns-clause-long
returns-clause-long c =
    let lt : 0 < 8 = omega arith in
    let x = fits_at lt c.args.numbers c.fits-numbers in
    let p = given c.fits-numbers.0 refl in
    let l = plus lt p (least lt (given c.fits-others.0 refl)
    (minus lt (splat lt 65535) p (omega arith) (omega (arith, x)))) in
    l.long

pub returns-clause-value : goal.returns-clause-value
returns-clause-value c k lt =
    let x = fits_at lt c.args.numbers c.fits-numbers in
    let p = given c.fits-numbers.0 refl in
    let l = plus lt p (least lt (given c.fits-others.0 refl)
    (minus lt (splat lt 65535) p (omega arith) (omega (arith, x)))) in
    l.is ∙ omega (arith, x)
