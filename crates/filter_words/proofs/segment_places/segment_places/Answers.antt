use Rattle.std.proofs.Common.{◌≡◌, Some, slice_get, sym, ap, ◌∙◌}
use Rattle.slice_types.specs.declared.slice.SliceHeaderFields.{SliceHeaderFields}
use Rattle.sample_words.specs.declared.modes.PlaceModes.{PlaceModes}
use Rattle.spec_picture_filters.specs.Units.{place_of}
use Rattle.filter_words.specs.Filters.{filter_place, known_place, place_in}
use Rattle.filter_words.proofs.segment_places.segment_places.Goals as goal

pub returns-clause-value : goal.returns-clause-value
unfolding filter_place
returns-clause-value c modes same =
    let p = c.args.plan.now in
    let s = c.segment_at-segment.result.now in
    let number : modes.segment ≡ c.unpack_modes.result.segment =
    same ∙ sym (ap (λ (m : PlaceModes). m.segment) c.unpack_modes.ensures) in
    let has : slice_get p.segments modes.segment ≡ Some s =
    ap (slice_get p.segments) number ∙ c.segment_at-segment.ensures in
    ap (λ (f : SliceHeaderFields). place_of f.slice.deblocking (known_place c.qp_bd_offset.result modes))
    c.fields.ensures.value
    ∙ ap (λ n. place_of s.header.slice.deblocking (known_place n modes)) c.qp_bd_offset.ensures.value
    ∙ sym (ap (place_in p modes) has)
