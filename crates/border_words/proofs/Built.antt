-- The samples of a coding tree unit as it is built.
use Rattle.std.proofs.Common.{◌≡◌, ℕ, ◌+◌, ◌-◌, ◌*◌, ◌/◌, arith, ap, ◌∙◌, length}
use Rattle.header_types.specs.SequenceParameterSets.{IsSps}
use Rattle.plan_types.specs.declared.picture_plan.PicturePlan.{PicturePlan}
use Rattle.spec_picture_build.specs.Border.{unit_side}
use Rattle.spec_picture_trees.specs.Places.{unit_places}
use Rattle.spec_picture_trees.specs.Shapes.{picture_shape}
use Rattle.spec_slice_data.specs.Residual.{samples_of_place}
use Rattle.sample_words.specs.Contents.{component_side, first_column}
use Rattle.sample_words.specs.Sizes.{ctb_size, height_of}
use Rattle.sample_words.specs.declared.sizes.FlightSizes.{FlightSizes}
use Rattle.spec_flights.specs.Phases.{phase_samples}
use Rattle.spec_flights.specs.Pictures.{folded_at}
use Rattle.spec_flights.specs.Words.{flight_sizes}
use Rattle.sample_lines.specs.FactsOfFlights.{FlightFacts}
use Rattle.sample_lines.specs.FactsOfFlights.{flight_in}
use Rattle.sample_lines.specs.FactsOfFlights.{samples_at, samples_of}
use Rattle.line_words.specs.Places.{UnitAt}
use Rattle.border_words.specs.Units.{IsTreeUnit}
use Rattle.border_words.proofs.Lines.{left_is, lowest_is}
use Rattle.border_words.proofs.Shapes.{side_is, some_places}

module _ (facts : FlightFacts) (u : UnitAt) (p : PicturePlan) (is : IsTreeUnit facts u p) where
  pub built_is : (c x y : ℕ) → samples_at (flight_in facts) u.line.picture u.line.phase c x y
      ≡ (folded_at (flight_in facts) u.line.picture).samples c x y
  unfolding samples_at phase_samples
  built_is c x y = λ t. samples_of (is.picture t) (folded_at (flight_in facts) u.line.picture) (is.phase t) c x y

  module _ (sized : u.sizes ≡ flight_sizes p.sps (length (flight_in facts).pictures)) where
    abbrev n : ℕ
    n = unit_places (picture_shape p.sps p.pps)

    sps : IsSps p.sps
    sps = (is.flight.range.plans u.line.picture p is.picture).sps

    pub whole_side : ctb_size u.sizes ≡ 4 * unit_places (picture_shape p.sps p.pps)
    whole_side =
        ap (λ (s : FlightSizes). ctb_size s) sized ∙ side_is p sps (length (flight_in facts).pictures)

    pub left_at : (c : ℕ) → component_side c (first_column u.sizes u.line.phase u.unit)
        ≡ samples_of_place c * (unit_places (picture_shape p.sps p.pps) * u.unit)
    left_at c =
        ap (λ phase. component_side c (first_column u.sizes phase u.unit)) is.phase
        ∙ left_is c n u.unit (ctb_size u.sizes) whole_side

    -- all lines of a unit that has another one below it
    pub whole_height : height_of u.sizes u.line.row / 4 ≡ unit_places (picture_shape p.sps p.pps)
        → height_of u.sizes u.line.row ≡ ctb_size u.sizes
    unfolding height_of
    whole_height down = omega (arith, down, whole_side)

    -- the lowest of them, above the row below
    pub lowest_at : (c : ℕ) → height_of u.sizes u.line.row / 4 ≡ unit_places (picture_shape p.sps p.pps)
        → component_side c (u.line.row * ctb_size u.sizes)
        + (component_side c (height_of u.sizes u.line.row) - 1)
        ≡ unit_side (picture_shape p.sps p.pps) c * (u.line.row + 1) - 1
    lowest_at c down =
        ap (λ h. component_side c (u.line.row * ctb_size u.sizes) + (component_side c h - 1)) (whole_height down)
        ∙ lowest_is c n u.line.row (ctb_size u.sizes) whole_side (some_places p sps (length (flight_in facts).pictures))
