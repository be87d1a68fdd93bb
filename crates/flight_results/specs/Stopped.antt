-- Where the decoding of a flight stops, by the fault word of its board.
use Rattle.std.specs.Prelude.{◌≡◌, ◌<◌, ◌≤◌, ◌%◌, ℕ, List, length, Option, Some, None, slice_get}
use Rattle.hv_base.specs.declared.refusal.Stop.{Stop}
use Rattle.plan_types.specs.declared.picture_plan.PicturePlan.{PicturePlan}
use Rattle.picture_buffer.specs.Pictures.{HeldPicture}
use Rattle.flight_facts.specs.PictureBuildPictures.{decoded_of}
use Rattle.row_trees.specs.SpecFlights.{PlannedFlight, known_decoded, pictures_before}
use Rattle.flight_facts.specs.FlightUnitLaws.{IsDecodedAt}
use Rattle.flight_lines.specs.Shown.{least_in}
use Rattle.flight_facts.specs.Held.{StopsByRule}
use Rattle.flight_results.specs.Flights.{StopsAt}

-- a fault word tells where decoding stops: none where all pictures are decoded, else the unit and the number of its
-- rule
pub record TellsStop (f : PlannedFlight) (word : ℕ) : Type 0 where
  pub all : least_in word ≡ None
      → (k : ℕ) (p : PicturePlan) → slice_get f.pictures k ≡ Some p → IsDecodedAt f k p
  pub some : (u : ℕ) → least_in word ≡ Some u → StopsByRule f u (word % 32)

-- so many pictures of a flight are decoded, the first of it, and this stops it
pub record StopsFlight (f : PlannedFlight) (count : ℕ) (fault : Option Stop) : Type 0 where
  pub few : count ≤ length f.pictures
  pub before : (k : ℕ) (p : PicturePlan) → k < count → slice_get f.pictures k ≡ Some p → IsDecodedAt f k p
  pub stops : StopsAt f count fault

-- each of these pictures is what the known units of the picture at its place make
abbrev pub AreHeld : PlannedFlight → List HeldPicture → Type 0
AreHeld f pictures = (k : ℕ) (p : PicturePlan) (picture : HeldPicture) → slice_get f.pictures k ≡ Some p
    → slice_get pictures k ≡ Some picture → decoded_of picture ≡ known_decoded (pictures_before f k) p
