use Rattle.std.proofs.Common.{◌<◌, ◌≤◌, ◌*◌, length, ap, arith}
use Rattle.spec_intra_prediction.specs.Neighbours.{at}
use Rattle.std.proofs.Math.Nat.{mul-le-mul_left}
use Rattle.intra_pred.proofs.Sides.{side_inside, side_more, side_end}
use Rattle.intra_pred.proofs.angular.lay_side.Goals as goal

pub side_place-requires-clause-places : goal.side_place-requires-clause-places
side_place-requires-clause-places c =
    let most : c.args.n * c.args.size ≤ c.args.n * 32 = mul-le-mul_left c.args.n c.requires.size in
    omega (arith, c.loop-j-test.true, c.requires.n)

pub bounds-side-side_place : goal.bounds-side-side_place
bounds-side-side_place c =
    let below : 32 * c.loop-j.j < c.args.n * c.args.size = omega (arith, c.loop-j-test.true) in
    let inside = side_inside c.args.n c.args.size c.args.inverse c.loop-j.j c.requires.n below c.requires.product in
    rw (c.side_place.ensures, c.requires.side) inside

pub loop-j-preserved : goal.loop-j-preserved
loop-j-preserved c =
    let most : c.args.n * c.args.size ≤ c.args.n * 32 = mul-le-mul_left c.args.n c.requires.size in
    let below : c.loop-j.j < c.args.n = omega (arith, c.loop-j-test.true) in
    let some : 0 < c.loop-j.j = omega (arith, c.loop-j.auto.j) in
    let room : c.args.n ≤ length c.loop-j.reference = omega (arith, c.loop-j.auto, c.requires.n) in
    record {
      few = omega (arith, c.loop-j-test.true);
      told =
          side_more c.args.n c.loop-j.j _ c.args.inverse c.args.side.now c.args.reference.now c.loop-j.reference some
          below room (ap (at c.args.side.now) c.side_place.ensures) c.loop-j.invariant.told;
    }

pub returns : goal.returns
returns c =
    side_end c.args.n c.loop-j.j (c.args.n * c.args.size) c.args.inverse c.args.side.now c.args.reference.now
    c.loop-j.reference c.loop-j.auto.j c.loop-j-test.false c.loop-j.invariant.few c.loop-j.invariant.told
