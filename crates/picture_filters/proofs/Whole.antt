-- A planned picture behind its loop filters.
use Rattle.std.proofs.Common.{◌≡◌, ℕ, ap, ◌∙◌}
use Rattle.picture_filters.specs.Places.{FieldPlaces, places_of}
use Rattle.picture_filters.specs.Units.{FieldUnits, units_of}
use Rattle.loop_filters.specs.Formats.{filters_of}
use Rattle.plan_types.specs.declared.picture_plan.PicturePlan.{PicturePlan}
use Rattle.spec_picture_filters.specs.SpecLoopFilters.{FilterFormat}
use Rattle.spec_picture_filters.specs.SpecLoopFilters.{Samples, final_samples}
use Rattle.spec_picture_filters.specs.Filtered.{filter_format, filtered}
use Rattle.picture_filters.specs.Filtering.{Viewed, gathered}

-- its samples, by what the filters ask of it
pub viewed_filtered : (p : PicturePlan) (format : FilterFormat) (view : Viewed) (places : FieldPlaces)
    (units : FieldUnits) (samples : Samples) (c x y : ℕ)
    → format ≡ filter_format p → view ≡ record { format = format; places = places; units = units }
    → final_samples (filters_of format (λ i j. (places_of view.places i j).place) (units_of view.units)) samples c x y
    ≡ filtered p (gathered (places_of places) (units_of units)) samples c x y
unfolding filtered
viewed_filtered p format view places units samples c x y e is =
    ap (λ (v : Viewed). final_samples (filters_of format (λ i j. (places_of v.places i j).place) (units_of v.units))
    samples c x y)
    is
    ∙ ap (λ (f : FilterFormat). final_samples (filters_of f (λ i j. (places_of places i j).place) (units_of units))
    samples c x y)
    e
