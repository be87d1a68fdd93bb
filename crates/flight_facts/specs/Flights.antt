-- A flight in range whose words are laid out by sizes, and the samples of its pictures.
use Rattle.std.specs.Prelude.{ℕ, ◌≡◌, Option, Some, None, slice_get}
use Rattle.hv_base.specs.declared.line.Phase.{Phase}
use Rattle.plan_types.specs.declared.picture_plan.PicturePlan.{PicturePlan}
use Rattle.picture_build.specs.SpecPictureBuild.{Samples}
use Rattle.picture_build.specs.SpecDecodedPictures.{DecodedUnits}
use Rattle.sample_words.specs.declared.sizes.FlightSizes.{FlightSizes}
use Rattle.flight_unit_laws.specs.SpecFlights.{phase_samples}
use Rattle.flight_unit_laws.specs.SpecFlights.{PlannedFlight, folded_at}
use Rattle.flight_unit_laws.specs.Planned.{IsPlanned}
use Rattle.flight_value_laws.specs.Ranges.{IsInRange}
use Rattle.flight_facts.specs.declared.flight_facts.FlightFacts.{FlightFacts}
use Rattle.flight_facts.specs.Boards.{sizes_in}
use Rattle.flight_facts.specs.Facts.{flight_in}

-- the flight that a board is of is planned and in range, and its pictures have these sizes
pub record IsOfFlight (facts : FlightFacts) (s : FlightSizes) : Type 0 where
  pub planned : IsPlanned (flight_in facts)
  pub range : IsInRange (flight_in facts)
  pub sizes : s ≡ sizes_in (flight_in facts).pictures

-- the samples of a picture in a phase, 0 where there is none
abbrev pub samples_of : Option PicturePlan → DecodedUnits → Phase → Samples
samples_of None units phase = λ c x y. 0
samples_of (Some p) units phase = phase_samples p units phase

-- those of the picture at a place of a flight
unfoldable pub samples_at : PlannedFlight → ℕ → Phase → Samples
samples_at f k = samples_of (slice_get f.pictures k) (folded_at f k)
