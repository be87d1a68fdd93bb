use Rattle.std.proofs.Common.{◌≡◌, ◌-◌, ◌∙◌, refl}
use Rattle.spec_cabac.proofs.TableRules.{unsigned_pre_state, unsigned_pre_state-is}
use Rattle.spec_cabac.proofs.context.pre_state.Goals as goal

pub returns-clause-value : goal.returns-clause-value
returns-clause-value c =
    let unsigned : c.clamp.result - 160 ≡ unsigned_pre_state c.args.qp c.args.init_value =
    rw (c.clamp.ensures, c.from-slope_index.ensures, c.from-offset_index.ensures) refl in
    unsigned ∙ unsigned_pre_state-is c.args.qp c.args.init_value c.requires c.ranges.init_value.fits
