-- Components of the pictures of a flight, by the formats of their loop filters.
use Rattle.std.proofs.Common.{◌≡◌, refl, ℕ, ◌/◌, ◌==◌, Bool, true, false, cond, ap, sym, ◌∙◌}
use Rattle.std.proofs.Common.{length, arith}
use Rattle.header_types.specs.declared.sps.SpsFields.{SpsFields}
use Rattle.header_types.specs.SequenceParameterSets.{blocks_across, height_in_ctbs}
use Rattle.spec_loop_filters.specs.declared.format.FilterFormat.{FilterFormat}
use Rattle.spec_loop_filters.specs.Filters.{height_of, size_of, width_of}
use Rattle.spec_picture_filters.specs.Filtered.{filter_format}
use Rattle.loop_filters.specs.declared.component.Component.{Component}
use Rattle.loop_filters.specs.Formats.{IsComponent, IsFormat, rows_of}
use Rattle.sample_lines.proofs.PictureFiltersLemmas.{is_planned}
use Rattle.sample_words.specs.declared.sizes.FlightSizes.{FlightSizes}
use Rattle.sample_words.specs.Contents.{component_side}
use Rattle.sample_words.specs.Sizes.{ctb_size, rows}
use Rattle.flight_waits.specs.SpecFlights.{flight_sizes}
use Rattle.sample_lines.specs.FactsOfFlights.{FlightFacts}
use Rattle.sample_lines.specs.FactsOfFlights.{flight_in}
use Rattle.sample_lines.specs.FactsOfFlights.{IsOfFlight}
use Rattle.sample_lines.proofs.FactsOfFlights.{picture_sizes}
use Rattle.filtered_rows.specs.Components.{HasSidesOf, IsFormatAt}

by_luma : (luma : Bool) (n : ℕ) → n / cond luma 1 2 ≡ cond luma n (n / 2)
by_luma true n = omega arith
by_luma false n = refl

rows_are : (sps : SpsFields) (n : ℕ) → height_in_ctbs sps ≡ rows (flight_sizes sps n)
unfolding blocks_across rows
rows_are sps n = refl

module _ (facts : FlightFacts) (s : FlightSizes) (is : IsOfFlight facts s) (k : ℕ) (format : FilterFormat)
    (by : IsFormatAt (flight_in facts) k format) where
  sizes_are : s ≡ flight_sizes by.plan.sps (length (flight_in facts).pictures)
  sizes_are = picture_sizes facts s k by.plan is by.has

  pub is_format : IsFormat format
  is_format = (is_planned by.plan format by.same (is.planned.sps k by.plan by.has)).is_format

  format_width : (c : ℕ) → width_of format c ≡ component_side c s.width
  unfolding filter_format
  format_width c =
      ap (λ (g : FilterFormat). width_of g c) by.same
      ∙ (by_luma (c == 0) (filter_format by.plan).width
      ∙ ap (λ (t : FlightSizes). component_side c t.width) (sym sizes_are))

  format_height : (c : ℕ) → height_of format c ≡ component_side c s.height
  unfolding filter_format
  format_height c =
      ap (λ (g : FilterFormat). height_of g c) by.same
      ∙ (by_luma (c == 0) (filter_format by.plan).height
      ∙ ap (λ (t : FlightSizes). component_side c t.height) (sym sizes_are))

  format_size : (c : ℕ) → size_of format c ≡ component_side c (ctb_size s)
  unfolding filter_format
  format_size c =
      ap (λ (g : FilterFormat). size_of g c) by.same
      ∙ (by_luma (c == 0) (filter_format by.plan).ctb_size
      ∙ ap (λ (t : FlightSizes). component_side c (ctb_size t)) (sym sizes_are))

  -- a component of a picture has the sides that it has in the flight
  pub sides_of : (component : Component) → IsComponent format component → HasSidesOf s component
  sides_of component of = record {
    c = of.c;
    width = of.width ∙ format_width component.c;
    height = of.height ∙ format_height component.c;
    size = of.size ∙ format_size component.c;
  }

  -- and as many rows
  pub rows_same : rows_of format ≡ rows s
  rows_same =
      (is_planned by.plan format by.same (is.planned.sps k by.plan by.has)).rows
      ∙ (rows_are by.plan.sps (length (flight_in facts).pictures) ∙ ap rows (sym sizes_are))
