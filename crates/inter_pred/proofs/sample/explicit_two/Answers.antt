use Rattle.std.proofs.Common.{rules, arith}
use Rattle.std.proofs.lemmas.Int.{to_z-of_z}
use mir.Val.{SFits}
use mir.Syntax.{w32}
use Rattle.spec_inter_prediction.specs.Weighting.{explicit_two}
use Rattle.inter_pred.proofs.sample.explicit_two.Goals as goal

pub returns : goal.returns
unfolding explicit_two
returns c =
    let fp : SFits w32 c.args.p = search rules in
    let fq : SFits w32 c.args.q = search rules in
    let ff : SFits w32 c.from.result = search rules in
    let fg : SFits w32 c.from-2.result = search rules in
    let fx : SFits w32 c.product-first.result = search rules in
    let fy : SFits w32 c.product-second.result = search rules in
    let fb : SFits w32 c.bias.result = search rules in
    let ft : SFits w32 c.total-sum.result = search rules in
    let fs : SFits w32 c.shifted.result = search rules in
    grind (
      arith,
      to_z-of_z,
      c.clip1.ensures,
      c.shifted.ensures.value,
      c.total-sum.ensures.value,
      c.bias.ensures.value,
      c.product-first.ensures.value,
      c.product-second.ensures.value,
      c.from.ensures,
      c.from-2.ensures,
    )
