use Rattle.std.proofs.Common.{◌<◌, ◌-◌, pos, ◌<ℤ◌, get_or, arith}
use Rattle.std.proofs.lemmas.Int.{ints}
use Rattle.spec_intra_prediction.proofs.AngleTables.{angle_least, angle_greatest, negative_between}
use Rattle.spec_intra_prediction.specs.declared.angles.TheConstants.{INTRA_PRED_ANGLE}
use Rattle.spec_intra_prediction.proofs.angles.pred_angle.Goals as goal

pub returns-clause-least : goal.returns-clause-least
returns-clause-least c =
    let inside : c.from.result - 2 < 33 = omega (arith, c.from.ensures, c.requires.high) in
    let least = angle_least (c.from.result - 2) inside in
    let greatest = angle_greatest (c.from.result - 2) inside in
    omega (arith, ints, c.from-2.ensures)

pub returns-clause-greatest : goal.returns-clause-greatest
returns-clause-greatest c =
    let inside : c.from.result - 2 < 33 = omega (arith, c.from.ensures, c.requires.high) in
    let least = angle_least (c.from.result - 2) inside in
    let greatest = angle_greatest (c.from.result - 2) inside in
    omega (arith, ints, c.from-2.ensures)

pub returns-clause-negative : goal.returns-clause-negative
returns-clause-negative c neg =
    let inside : c.from.result - 2 < 33 = omega (arith, c.from.ensures, c.requires.high) in
    let least = angle_least (c.from.result - 2) inside in
    let greatest = angle_greatest (c.from.result - 2) inside in
    let below : get_or INTRA_PRED_ANGLE (c.from.result - 2) (pos 0) <ℤ pos 0 =
    omega (arith, ints, c.from-2.ensures, neg) in
    let between = negative_between (c.from.result - 2) inside below in
    (omega (arith, between.0, c.from.ensures), omega (arith, between.1, c.from.ensures))
