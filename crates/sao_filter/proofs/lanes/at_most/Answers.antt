use Rattle.std.proofs.Common.{◌<◌, arith, refl}
use lib.Dec.{leb}
use Rattle.sao_filter.proofs.Lane.{chosen, given, splat}
use Rattle.sao_filter.proofs.lanes.at_most.Goals as goal

pub returns-clause-long : goal.returns-clause-long
returns-clause-long c =
    let lt : 0 < 8 = omega arith in
    let l = chosen lt leb (given c.fits-numbers.0 refl) (given c.fits-others.0 refl) (splat lt 1) (splat lt 0) _
    refl in
    l.long

pub returns-clause-value : goal.returns-clause-value
returns-clause-value c k lt =
    let l = chosen lt leb (given c.fits-numbers.0 refl) (given c.fits-others.0 refl) (splat lt 1) (splat lt 0) _
    refl in
    l.is
