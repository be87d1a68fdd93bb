use Rattle.std.proofs.Common.{refl, ap, sym, ◌∙◌}
use Rattle.header_types.specs.declared.sps.SpsFields.{SpsFields}
use Rattle.header_types.specs.SequenceParameterSets.{ctb_log2}
use Rattle.flight_views.proofs.Sides.{sides_are}
use Rattle.flight_views.proofs.layouts.layout_of.Goals as goal

pub new-requires : goal.new-requires
new-requires c =
    let sps = c.deref.result.now in
    let fields = c.fields.ensures.value in
    sides_are _ sps c.args.count c.fields.ensures.in_range c.requires.some c.requires.few
    (ap (λ (s : SpsFields). s.format.pic_width_in_luma_samples) fields)
    (ap (λ (s : SpsFields). s.format.pic_height_in_luma_samples) fields)
    (c.ctb_log2.ensures.value
    ∙ ap (λ (s : SpsFields). ctb_log2 s.blocks) (c.deref-2.ensures ∙ sym c.deref.ensures)) refl
