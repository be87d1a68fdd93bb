use Rattle.std.proofs.Common.{◌≡◌, ◌*◌, ◌^◌, ◌∙◌, ap, rules, arith}
use Rattle.ctu_build.proofs.SampleItems.{chroma_area, chroma_small, luma_area, luma_small}
use Rattle.ctu_build.proofs.Squares.{pulses_unit}
use Rattle.ctu_build.specs.declared.place.Place.{Place}
use Rattle.ctu_build.proofs.pulses.lay_pulses.Goals as goal

pub returns : goal.returns
returns c has =
    let format = c.args.format.now in
    let square = c.args.square in
    let size = ap (λ (p : Place). p.log2) c.luma_place-y_place.ensures.value in
    let half = ap (λ (p : Place). p.log2) c.chroma_place-cb_place.ensures.value in
    let last = ap (λ (p : Place). p.log2) c.chroma_place.ensures.value in
    let first : c.area-cb_first.result ≡ 16 * 4 ^ square.log2_size =
    c.area-cb_first.ensures.value ∙ ap (λ n. 2 ^ n * 2 ^ n) size ∙ luma_area square.log2_size in
    let count : c.area.result ≡ 4 * 4 ^ square.log2_size =
    c.area.ensures.value ∙ ap (λ n. 2 ^ n * 2 ^ n) half ∙ chroma_area square.log2_size in
    pulses_unit format square c.args.items.now _ _ _ _ _ _ _ _ _ _ _
    (c.lay_component-3.ensures
    (chroma_small format square c.args.items.now _ _ _ c.requires.format has (search rules) last
    (omega (arith, first, count)) (omega (arith, first, count))))
    (c.lay_component-2.ensures
    (chroma_small format square c.args.items.now _ _ _ c.requires.format has (search rules) half
    (omega (arith, first)) (omega (arith, first))))
    (c.lay_component.ensures
    (luma_small format square c.args.items.now _ _ c.requires.format has (search rules) size))
    c.luma_place-y_place.ensures.value c.chroma_place-cb_place.ensures.value c.chroma_place.ensures.value
    c.area-cb_first.ensures.value c.area.ensures.value (search rules) (search rules)
