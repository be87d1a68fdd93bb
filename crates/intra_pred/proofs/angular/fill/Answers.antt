use Rattle.std.proofs.Common.{◌≡◌, pos, ◌<ℤ◌, arith}
use Rattle.std.specs.Int.RustNames.{unsigned_abs}
use Rattle.std.proofs.lemmas.Int.{ints}
use Rattle.spec_intra_prediction.specs.Angular.{angle}
use Rattle.intra_pred.proofs.Sides.{laid}
use Rattle.intra_pred.proofs.angular.fill.Goals as goal

pub returns-then-angle-lt0 : goal.returns-then-angle-lt0
returns-then-angle-lt0 c =
    let e : c.pred_angle-angle.result ≡ angle c.args.mode = c.pred_angle-angle.ensures.value in
    let negative : angle c.args.mode <ℤ pos 0 = omega (arith, ints, e, c.if-angle-lt0.true) in
    let size : c.unsigned_abs.result ≡ unsigned_abs (angle c.args.mode) =
    omega (arith, ints, e, c.unsigned_abs.ensures.value) in
    rw (← c.inverse_angle.ensures.value)
    (laid c.args.n c.inverse_angle.result c.unsigned_abs.result (angle c.args.mode) c.args.main.now c.args.side.now
    c.args.reference.now c.lay_main.new.reference c.lay_side.new.reference
    negative size c.lay_main.ensures c.lay_side.ensures)
