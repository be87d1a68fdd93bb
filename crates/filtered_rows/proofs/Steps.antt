-- The samples of a picture of a flight in a phase of the loop filters, by those in the phase before it.
use Rattle.std.proofs.Common.{◌≡◌, refl, ℕ, Option, Some, slice_get, sym, subst}
use Rattle.hv_base.specs.declared.line.Phase.TheVariants.{B, V, H, S}
use Rattle.plan_types.specs.declared.picture_plan.PicturePlan.{PicturePlan}
use Rattle.spec_loop_filters.specs.declared.format.FilterFormat.{FilterFormat}
use Rattle.spec_loop_filters.specs.Filters.{offset_plane}
use Rattle.spec_sample_adaptive_offset.specs.Plane.{offset_sample}
use Rattle.filter_locality_laws.specs.Rows.{behind_horizontal, behind_vertical}
use Rattle.spec_picture_filters.specs.Filtered.{filter_format}
use Rattle.flight_waits.specs.SpecDecodedPictures.{DecodedUnits}
use Rattle.loop_filters.specs.Formats.{filters_of}
use Rattle.flight_waits.specs.SpecFlights.{horizontal_samples, offset_samples, phase_samples, vertical_samples}
use Rattle.flight_waits.specs.SpecFlights.{PlannedFlight, folded_at}
use Rattle.sample_lines.specs.FactsOfFlights.{samples_at, samples_of}
use Rattle.filtered_rows.specs.Components.{IsFormatAt}

module _ (f : PlannedFlight) (k : ℕ) (format : FilterFormat) (by : IsFormatAt f k format) (c : ℕ) where
  abbrev units : DecodedUnits
  units = folded_at f k

  -- behind vertical edges
  abbrev Vertical : FilterFormat → Option PicturePlan → Type 0
  Vertical g o = behind_vertical g units.filters.places c (samples_of o units B c) ≡ samples_of o units V c

  vertical_in : (p : PicturePlan) → Vertical (filter_format p) (Some p)
  unfolding phase_samples vertical_samples
  vertical_in p = refl

  pub vertical_is : behind_vertical format units.filters.places c (samples_at f k B c) ≡ samples_at f k V c
  unfolding samples_at
  vertical_is =
      subst (λ (g : FilterFormat). Vertical g (slice_get f.pictures k)) (sym by.same)
      (subst (Vertical (filter_format by.plan)) (sym by.has) (vertical_in by.plan))

  -- behind horizontal ones
  abbrev Horizontal : FilterFormat → Option PicturePlan → Type 0
  Horizontal g o = behind_horizontal g units.filters.places c (samples_of o units V c) ≡ samples_of o units H c

  horizontal_in : (p : PicturePlan) → Horizontal (filter_format p) (Some p)
  unfolding phase_samples horizontal_samples
  horizontal_in p = refl

  pub horizontal_is : behind_horizontal format units.filters.places c (samples_at f k V c) ≡ samples_at f k H c
  unfolding samples_at
  horizontal_is =
      subst (λ (g : FilterFormat). Horizontal g (slice_get f.pictures k)) (sym by.same)
      (subst (Horizontal (filter_format by.plan)) (sym by.has) (horizontal_in by.plan))

  -- behind sample adaptive offset
  abbrev Offset : FilterFormat → Option PicturePlan → Type 0
  Offset g o =
      offset_sample (offset_plane (filters_of g units.filters.places units.filters.units) c) (samples_of o units H c)
      ≡ samples_of o units S c

  offset_in : (p : PicturePlan) → Offset (filter_format p) (Some p)
  unfolding phase_samples offset_samples
  offset_in p = refl

  pub offset_is : offset_sample (offset_plane (filters_of format units.filters.places units.filters.units) c)
      (samples_at f k H c) ≡ samples_at f k S c
  unfolding samples_at
  offset_is =
      subst (λ (g : FilterFormat). Offset g (slice_get f.pictures k)) (sym by.same)
      (subst (Offset (filter_format by.plan)) (sym by.has) (offset_in by.plan))
