use Rattle.std.proofs.Common.{◌<◌, arith, refl}
use Rattle.sao_filter.proofs.Lane.{given, least, splat}
use Rattle.sao_filter.proofs.lanes.held.Goals as goal

pub returns-clause-long : goal.returns-clause-long
returns-clause-long c =
    let lt : 0 < 8 = omega arith in
    let l = least lt (given c.fits-samples.0 refl) (splat lt c.args.greatest) in
    l.long

pub returns-clause-value : goal.returns-clause-value
returns-clause-value c k lt =
    let l = least lt (given c.fits-samples.0 refl) (splat lt c.args.greatest) in
    l.is
