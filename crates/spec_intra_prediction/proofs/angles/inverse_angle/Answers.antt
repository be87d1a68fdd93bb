use Rattle.std.proofs.Common.{◌≡◌, ℕ, ◌+◌, ◌*◌, ◌<◌, ◌≤◌, ◌-◌, pos, get_or, subst, arith}
use Rattle.spec_intra_prediction.proofs.AngleTables.{inverse_greatest, product_greatest}
use Rattle.std.specs.Int.RustNames.{unsigned_abs}
use Rattle.spec_intra_prediction.specs.Angular.{angle}
use Rattle.spec_intra_prediction.specs.declared.angles.TheConstants.{INTRA_PRED_ANGLE, INVERSE_ANGLE}
use Rattle.spec_intra_prediction.proofs.angles.inverse_angle.Goals as goal

pub returns-clause-greatest : goal.returns-clause-greatest
returns-clause-greatest c =
    let inside : c.from.result - 11 < 15 = omega (arith, c.from.ensures, c.requires.high) in
    let greatest = inverse_greatest (c.from.result - 11) inside in
    omega (arith, c.from-2.ensures)

pub returns-clause-product : goal.returns-clause-product
unfolding angle
returns-clause-product c =
    let inside : c.from.result - 11 < 15 = omega (arith, c.from.ensures, c.requires.high) in
    let here : 9 + (c.from.result - 11) ≡ c.args.mode - 2 = omega (arith, c.from.ensures, c.requires.low) in
    let is : c.from-2.result ≡ get_or INVERSE_ANGLE (c.from.result - 11) 0 = c.from-2.ensures in
    rw is (subst
    (λ (i : ℕ). unsigned_abs (get_or INTRA_PRED_ANGLE i (pos 0)) * get_or INVERSE_ANGLE (c.from.result - 11) 0 ≤ 8208)
    here (product_greatest (c.from.result - 11) inside))
