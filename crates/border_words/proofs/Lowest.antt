-- The lowest line of samples of a coding tree unit, laid above the row below it.
use Rattle.std.proofs.Common.{◌≡◌, ℕ, ◌+◌, ◌-◌, ◌*◌, ◌/◌, ◌%◌, ◌<◌, ◌≤◌, min, arith, ap, sym, ◌∙◌, subst}
use Rattle.std.proofs.Common.{List, length, slice_index}
use Rattle.std.proofs.Math.Nat.{div-mul-le_self, mul-le-mul_right}
use Rattle.header_types.specs.SequenceParameterSets.{blocks_across, width_in_ctbs}
use Rattle.plan_types.specs.declared.picture_plan.PicturePlan.{PicturePlan}
use Rattle.spec_picture_build.specs.Border.{unit_side, width_of as picture_width}
use Rattle.spec_picture_trees.specs.Places.{unit_places}
use Rattle.spec_picture_trees.specs.Shapes.{picture_shape}
use Rattle.spec_flights.specs.SpecDecodedPictures.{DecodedUnits}
use Rattle.spec_slice_data.specs.Residual.{samples_of_place}
use Rattle.spec_slice_data.specs.Segment.{PictureShape}
use Rattle.sample_words.specs.declared.sizes.FlightSizes.{FlightSizes}
use Rattle.sample_words.specs.Contents.{component_side}
use Rattle.sample_words.specs.Sizes.{IsFlight, ctb_size, height_of, width_of}
use Rattle.spec_flights.specs.Pictures.{PlannedFlight, folded_at}
use Rattle.spec_flights.specs.Words.{flight_sizes}
use Rattle.row_borders.specs.Next.{HasLine, LaysSamples}
use Rattle.row_borders.specs.Strips.{StripPlaces}
use Rattle.row_borders.proofs.Laid.{line_grows}
use Rattle.sample_lines.specs.FactsOfFlights.{FlightFacts}
use Rattle.sample_lines.specs.FactsOfFlights.{flight_in}
use Rattle.line_words.specs.Places.{UnitAt}
use Rattle.sample_lines.specs.Lines.{sample_of}
use Rattle.border_words.specs.Units.{IsTreeUnit}
use Rattle.border_words.proofs.Built.{built_is, left_at, lowest_at, whole_side}
use Rattle.border_words.proofs.Lines.{inside_is, left_is, line_end}
use Rattle.border_words.proofs.Places.{column_inside}

-- a unit of a row begins before its end
before_end : (m x w : ℕ) → 1 ≤ m → x < (w + (m - 1)) / m → x * m < w
before_end m x w some less =
    let low = div-mul-le_self (w + (m - 1)) m in
    let most : (x + 1) * m ≤ (w + (m - 1)) / m * m = mul-le-mul_right m (omega (arith, less)) in
    let next : (x + 1) * m ≡ x * m + m = grind arith in
    omega (arith, low, most, next, some)

module _ (facts : FlightFacts) (u : UnitAt) (p : PicturePlan) (is : IsTreeUnit facts u p)
    (sized : u.sizes ≡ flight_sizes p.sps (length (flight_in facts).pictures)) (flight : IsFlight u.sizes)
    (some_side : 16 ≤ ctb_size u.sizes) (c : ℕ) where
  abbrev f : PlannedFlight
  f = flight_in facts

  abbrev q : PictureShape
  q = picture_shape p.sps p.pps

  abbrev n : ℕ
  n = unit_places (picture_shape p.sps p.pps)

  abbrev units : DecodedUnits
  units = folded_at (flight_in facts) u.line.picture

  abbrev w : ℕ
  w = u.sizes.width

  abbrev first : ℕ
  first = samples_of_place c * (n * u.unit)

  across_is : q.across ≡ w / 4
  unfolding picture_shape
  across_is = ap (λ (s : FlightSizes). s.width / 4) (sym sized)

  whole_width : w % 4 ≡ 0
  whole_width = let eights = flight.whole_columns in omega (arith, eights)

  begins : u.unit * ctb_size u.sizes < w
  unfolding blocks_across
  begins =
      let less : u.unit < width_in_ctbs p.sps = column_inside facts u p is sized in
      let here : u.unit < (w + (ctb_size u.sizes - 1)) / ctb_size u.sizes =
      subst (λ (s : FlightSizes). u.unit < (s.width + (ctb_size s - 1)) / ctb_size s) (sym sized) less in
      before_end (ctb_size u.sizes) u.unit w (omega (arith, some_side)) here

  -- it fits
  pub line_fits : (left width : ℕ) → left ≡ component_side c (u.unit * ctb_size u.sizes)
      → width ≡ component_side c (width_of u.sizes u.unit)
      → left + width ≤ picture_width (picture_shape p.sps p.pps) c
  unfolding width_of
  line_fits left width left_so width_so =
      let fit = inside_is c n u.unit (ctb_size u.sizes) w (whole_side facts u p is sized) whole_width begins in
      let from : left ≡ first = left_so ∙ left_is c n u.unit (ctb_size u.sizes) (whole_side facts u p is sized) in
      let wide : samples_of_place c * q.across ≡ samples_of_place c * (w / 4) =
      ap (λ a. samples_of_place c * a) across_is in
      omega (arith, fit, from, width_so, wide)

  -- and goes on
  module _ (old new : StripPlaces) (left width lowest : ℕ) (samples : List ℕ)
      (down : height_of u.sizes u.line.row / 4 ≡ unit_places (picture_shape p.sps p.pps))
      (left_so : left ≡ component_side c (u.unit * ctb_size u.sizes))
      (width_so : width ≡ component_side c (width_of u.sizes u.unit)) (count : length samples ≡ width)
      (lowest_so : lowest ≡ component_side c (height_of u.sizes u.line.row) - 1)
      (values : (k : ℕ) → k < width → slice_index samples k ≡ sample_of (flight_in facts) u c k lowest)
      (lays : LaysSamples old new c left samples) where
    from : left ≡ first
    from = left_so ∙ left_is c n u.unit (ctb_size u.sizes) (whole_side facts u p is sized)

    value_is : (k : ℕ) → sample_of (flight_in facts) u c k lowest
        ≡ units.samples c (left + k) (unit_side q c * (u.line.row + 1) - 1)
    unfolding sample_of
    value_is k =
        built_is facts u p is c _ _
        ∙ (ap (λ x. units.samples c (x + k) (component_side c (u.line.row * ctb_size u.sizes) + lowest))
        (left_at facts u p is sized c ∙ sym from)
        ∙ ap (units.samples c (left + k))
        (ap (λ y. component_side c (u.line.row * ctb_size u.sizes) + y) lowest_so
        ∙ lowest_at facts u p is sized c down))

    end_is : left + length samples ≡ first + component_side c (min (ctb_size u.sizes) (w - u.unit * ctb_size u.sizes))
    unfolding width_of
    end_is = λ t. from t + (count ∙ width_so) t

    pub line_laid : HasLine (picture_shape p.sps p.pps) (u.line.row + 1) old
        (folded_at (flight_in facts) u.line.picture) c
        (samples_of_place c * (unit_places (picture_shape p.sps p.pps) * u.unit))
        → HasLine (picture_shape p.sps p.pps) (u.line.row + 1) new (folded_at (flight_in facts) u.line.picture) c
        (samples_of_place c * (unit_places (picture_shape p.sps p.pps) * (u.unit + 1)))
    line_laid has =
        line_end q (u.line.row + 1) new units c n u.unit (ctb_size u.sizes) w (whole_side facts u p is sized)
        whole_width across_is
        (subst (λ e. HasLine q (u.line.row + 1) new units c e) end_is
        (line_grows q (u.line.row + 1) old new units c left samples lays
        (λ k low less across. values k (omega (arith, less, count)) ∙ value_is k)
        (subst (λ e. HasLine q (u.line.row + 1) old units c e) (sym from) has)))
