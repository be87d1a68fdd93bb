-- What a pass of a flight's board has seen counted.
use Rattle.std.specs.Prelude.{ℕ, ◌≡◌, ◌<◌}
use Rattle.hv_base.specs.declared.line.Line.{Line}
use Rattle.sample_words.specs.declared.sizes.FlightSizes.{FlightSizes}
use Rattle.sample_words.specs.Words.{IsLine, line_number}
use Rattle.progress_words.specs.declared.view.View.{View}
use Rattle.progress_words.specs.Views.{seen_of}
use Rattle.line_words.specs.Places.{IsUnit, UnitAt, number_at}
use Rattle.flight_waits.specs.FactsOfFlights.{FlightFacts}
use Rattle.flight_waits.specs.FactsOfFlights.{IsOfFlight}

-- it has come to a unit of a flight: it has seen those before it in its line counted, and no more
pub record HasReached (facts : FlightFacts) (v : View FlightFacts) (u : UnitAt) : Type 0 where
  pub flight : IsOfFlight facts u.sizes
  pub unit : IsUnit u
  pub seen : seen_of v (number_at u) ≡ u.unit

-- it has seen the unit y of a line counted
pub record IsSeenUnit (s : FlightSizes) (v : View FlightFacts) (m : Line) (y : ℕ) : Type 0 where
  pub line : IsLine s m
  pub seen : y < seen_of v (line_number s m)
