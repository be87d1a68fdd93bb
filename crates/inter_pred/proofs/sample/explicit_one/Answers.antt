use Rattle.std.proofs.Common.{rules, arith}
use Rattle.std.proofs.lemmas.Int.{to_z-of_z}
use mir.Val.{SFits}
use mir.Syntax.{w8, w16, w32}
use Rattle.spec_inter_prediction.specs.Weighting.{explicit_one}
use Rattle.inter_pred.proofs.sample.explicit_one.Goals as goal

pub returns : goal.returns
unfolding explicit_one
returns c =
    let fp : SFits w32 c.args.p = search rules in
    let fw : SFits w16 c.args.w.weight = search rules in
    let fo : SFits w8 c.args.w.offset = search rules in
    let ff : SFits w32 c.from.result = search rules in
    let fx : SFits w32 c.product-weighted.result = search rules in
    let fr : SFits w32 c.rounded.result = search rules in
    let ft : SFits w32 c.offset.result = search rules in
    let fm : SFits w32 c.moved.result = search rules in
    grind (
      arith,
      to_z-of_z,
      c.clip1.ensures,
      c.moved.ensures,
      c.rounded.ensures.value,
      c.offset.ensures.value,
      c.product-weighted.ensures.value,
      c.from.ensures,
    )
