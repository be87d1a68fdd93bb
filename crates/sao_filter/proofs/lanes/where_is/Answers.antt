use Rattle.std.proofs.Common.{◌<◌, arith, refl}
use Rattle.std.specs.Prelude.{◌==◌}
use lib.Dec.{eqb}
use Rattle.sao_filter.specs.Row.{at}
use Rattle.sao_filter.proofs.Lane.{chosen, given, small_or_none, splat}
use Rattle.sao_filter.proofs.lanes.where_is.Goals as goal

pub returns-clause-long : goal.returns-clause-long
returns-clause-long c =
    let lt : 0 < 8 = omega arith in
    let l = chosen lt eqb (given c.fits-places.0 refl) (splat lt c.args.place) (splat lt c.args.number) (splat lt 0) _
    refl in
    l.long

pub returns-clause-value : goal.returns-clause-value
returns-clause-value c k lt =
    let l = chosen lt eqb (given c.fits-places.0 refl) (splat lt c.args.place) (splat lt c.args.number) (splat lt 0) _
    refl in
    l.is

pub returns-clause-small : goal.returns-clause-small
returns-clause-small c k lt =
    let l = chosen lt eqb (given c.fits-places.0 refl) (splat lt c.args.place) (splat lt c.args.number) (splat lt 0) _
    refl in
    omega (arith, l.is, small_or_none (at c.args.places k == c.args.place) c.args.number c.ranges.number.fits)
