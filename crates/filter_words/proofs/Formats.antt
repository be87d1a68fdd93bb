-- The sides of a picture, as its loop filters and as its words have them.
use Rattle.std.proofs.Common.{◌≡◌, ℕ, ◌+◌, ◌-◌, ◌/◌, ap, sym, ◌∙◌, arith}
use Rattle.plan_types.specs.declared.picture_plan.PicturePlan.{PicturePlan}
use Rattle.spec_picture_filters.specs.Filtered.{filter_format}
use Rattle.loop_filters.specs.Formats.{columns_of, rows_of}
use Rattle.sample_words.specs.declared.sizes.FlightSizes.{FlightSizes}
use Rattle.sample_words.specs.Sizes.{IsFlight, columns, ctb_size, rows}
use Rattle.sample_words.proofs.Bounds.{least_side}
use Rattle.flight_facts.specs.SpecFlights.{flight_sizes}

module _ (s : FlightSizes) (p : PicturePlan) (pictures : ℕ) (is : s ≡ flight_sizes p.sps pictures) where
  pub width_is : (filter_format p).width ≡ s.width
  unfolding filter_format
  width_is = ap (λ (t : FlightSizes). t.width) (sym is)

  pub height_is : (filter_format p).height ≡ s.height
  unfolding filter_format
  height_is = ap (λ (t : FlightSizes). t.height) (sym is)

  pub ctb_size_is : (filter_format p).ctb_size ≡ ctb_size s
  unfolding filter_format
  ctb_size_is = ap (λ (t : FlightSizes). ctb_size t) (sym is)

  module _ (flight : IsFlight s) where
    pub columns_are : columns_of (filter_format p) ≡ columns s
    unfolding columns
    columns_are =
        let least = least_side s flight in
        let e : s.width + ctb_size s - 1 ≡ s.width + (ctb_size s - 1) = omega (arith, least) in
        ap (λ w. (w + (filter_format p).ctb_size - 1) / (filter_format p).ctb_size) width_is
        ∙ ap (λ c. (s.width + c - 1) / c) ctb_size_is ∙ ap (λ n. n / ctb_size s) e

    pub rows_are : rows_of (filter_format p) ≡ rows s
    unfolding rows
    rows_are =
        let least = least_side s flight in
        let e : s.height + ctb_size s - 1 ≡ s.height + (ctb_size s - 1) = omega (arith, least) in
        ap (λ h. (h + (filter_format p).ctb_size - 1) / (filter_format p).ctb_size) height_is
        ∙ ap (λ c. (s.height + c - 1) / c) ctb_size_is ∙ ap (λ n. n / ctb_size s) e
