-- What the words of a board that was closed tell of a flight of pictures.
use Rattle.std.specs.Prelude.{ℕ, ◌≡◌, ◌%◌, List, Some, None, slice_get}
use Rattle.rule_numbers.specs.Rules.{IsNumbered}
use Rattle.plan_types.specs.declared.picture_plan.PicturePlan.{PicturePlan}
use Rattle.progress_words.specs.Core.{fault_in}
use Rattle.flight_unit_laws.specs.SpecFlights.{PlannedFlight}
use Rattle.flight_unit_laws.specs.Stops.{IsDecodedAt, StopsDecoding}
use Rattle.line_words.specs.FlightLines.{HoldsFlight}
use Rattle.line_words.specs.FlightLines.{least_in}
use Rattle.flight_facts.specs.Boards.{board_flight, flight_meaning}

-- decoding stops at unit u, by a rule on the data of slice segments that has this number
pub record StopsByRule (f : PlannedFlight) (u r : ℕ) : Type 0 where
  pub stops : StopsDecoding f u
  pub rule : IsNumbered r stops.broken.breach

-- the words hold the flight: where the fault word is none all pictures are decoded, else decoding stops at its unit by
-- its rule; each unit before that is counted, and each of its words is as expected
pub record HoldsPictures (f : PlannedFlight) (words : List ℕ) : Type 0 where
  pub holds : HoldsFlight (board_flight f) words
  pub all : least_in (fault_in (flight_meaning f) words) ≡ None
      → (k : ℕ) (p : PicturePlan) → slice_get f.pictures k ≡ Some p → IsDecodedAt f k p
  pub some : (u : ℕ) → least_in (fault_in (flight_meaning f) words) ≡ Some u
      → StopsByRule f u (fault_in (flight_meaning f) words % 32)
