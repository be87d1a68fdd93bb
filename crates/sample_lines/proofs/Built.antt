-- Samples of coding tree units by the columns of their picture.
use Rattle.std.proofs.Common.{◌≡◌, ℕ, ◌+◌, ◌*◌, ◌<◌, ◌≤◌, ap, arith}
use Rattle.hv_base.specs.declared.line.Line.{Line}
use Rattle.hv_base.specs.declared.line.Phase.{Phase}
use Rattle.hv_base.specs.declared.line.Phase.TheVariants.{B}
use Rattle.sample_words.specs.declared.sizes.FlightSizes.{FlightSizes}
use Rattle.sample_words.specs.Contents.{component_side, first_column, unit_width}
use Rattle.sample_words.specs.Sizes.{IsFlight, columns, ctb_size, width_of}
use Rattle.flight_facts.specs.SpecFlights.{PlannedFlight}
use Rattle.line_words.specs.Places.{UnitAt}
use Rattle.flight_facts.specs.Flights.{samples_at}
use Rattle.sample_lines.specs.Lines.{sample_of, width_at}
use Rattle.sample_lines.proofs.Columns.{unit_ends}

-- a unit of a row of coding tree units
abbrev pub unit_of : FlightSizes → Line → ℕ → UnitAt
unit_of s l k = record { sizes = s; line = l; unit = k }

module _ (s : FlightSizes) (l : Line) (k : ℕ) (phase : l.phase ≡ B) where
  pub built_width : (c : ℕ) → width_at (unit_of s l k) c ≡ component_side c (width_of s k)
  built_width c = ap (λ (p : Phase). component_side c (unit_width s p k)) phase

  pub built_ends : (c : ℕ) → IsFlight s → k < columns s
      → component_side c (k * ctb_size s) + width_at (unit_of s l k) c ≤ component_side c s.width
  built_ends c is less =
      let width = built_width c in
      let ends = unit_ends s c k is less in
      omega (arith, width, ends)

  pub built_sample : (f : PlannedFlight) (c x y : ℕ)
      → sample_of f (unit_of s l k) c x y
      ≡ samples_at f l.picture B c (component_side c (k * ctb_size s) + x) (component_side c (l.row * ctb_size s) + y)
  unfolding sample_of
  built_sample f c x y =
      ap (λ (p : Phase). samples_at f l.picture p c (component_side c (first_column s p k) + x)
      (component_side c (l.row * ctb_size s) + y)) phase
