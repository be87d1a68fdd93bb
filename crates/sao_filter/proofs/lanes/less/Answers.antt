use Rattle.std.proofs.Common.{◌<◌, arith, refl, ◌∙◌}
use Rattle.sao_filter.proofs.Lane.{fits_at, given, minus, most}
use Rattle.sao_filter.proofs.lanes.less.Goals as goal

pub returns-clause-long : goal.returns-clause-long
returns-clause-long c =
    let lt : 0 < 8 = omega arith in
    let x = fits_at lt c.args.numbers c.fits-numbers in
    let y = fits_at lt c.args.others c.fits-others in
    let q = given c.fits-others.0 refl in
    let l = minus lt (most lt (given c.fits-numbers.0 refl) q) q (omega (arith, x, y)) (omega arith) in
    l.long

pub returns-clause-value : goal.returns-clause-value
returns-clause-value c k lt =
    let x = fits_at lt c.args.numbers c.fits-numbers in
    let y = fits_at lt c.args.others c.fits-others in
    let q = given c.fits-others.0 refl in
    let l = minus lt (most lt (given c.fits-numbers.0 refl) q) q (omega (arith, x, y)) (omega arith) in
    l.is ∙ omega arith
