-- What a planner gives over a whole input.
use Rattle.std.specs.Prelude.{◌≡◌, ℕ, ◌≤◌, true, List, [], ◌∷◌, ◌++◌, length, All, Ok}
use Rattle.plan_types.specs.declared.picture_plan.PicturePlan.{PicturePlan}
use Rattle.header_types.specs.Content.{same_content}
use Rattle.spec_nal_units.specs.Judged.{Told}
use Rattle.spec_picture_plan.specs.Pictures.{beginning}
use Rattle.spec_picture_plan.specs.Planned.{Planned}
use Rattle.picture_plan.specs.Flights.{pictures_of}
use Rattle.picture_plan.specs.Plans.{Plans, Given, behind_unit, at_end, stop_of}

-- a planner before the first unit
abbrev pub new_plans : ℕ → Plans
new_plans ahead = record { ahead = ahead; pending = []; next = Ok beginning }

abbrev pub behind_flights : List (List PicturePlan) → Given → Given
behind_flights flights g = record { flights = flights ++ g.flights; last = g.last; left = g.left }

-- the flights over these units and the end of the input
abbrev pub run : Plans → List Told → Given
run p [] = at_end p
run p (t ∷ ts) = behind_flights (behind_unit p (t ∷ [])).flights (run (behind_unit p (t ∷ [])).left ts)

-- the flights hold the pictures that are planned, and nothing else; the same pictures go out at the end, and the same
-- stops the stream
pub record ArePlanned (g : Given) (p : Planned) : Type 0 where
  pub pictures : pictures_of g.flights ≡ p.pictures
  pub last : g.last ≡ p.last
  pub stop : stop_of g.left.next ≡ p.stop

-- one to `ahead` pictures of one sequence parameter set
abbrev pub IsFlight : ℕ → List PicturePlan → Type 0
IsFlight ahead [] = ⊥
IsFlight ahead (p ∷ pictures) = (length (p ∷ pictures) ≤ ahead) × All (λ q. same_content p.sps q.sps ≡ true) pictures

abbrev pub AreFlights : ℕ → List (List PicturePlan) → Type 0
AreFlights ahead flights = All (IsFlight ahead) flights
