-- What a planner gives over a stream of units, call by call, and that its flights are as long as they can be.
use Rattle.std.specs.Prelude.{◌≡◌, ◌⊎◌, ◌≤◌, ℕ, Bool, false, List, [], ◌∷◌, ◌++◌, length, Result}
use Rattle.hv_base.specs.declared.refusal.Stop.{Stop}
use Rattle.plan_types.specs.declared.picture_plan.PicturePlan.{PicturePlan}
use Rattle.plan_types.specs.declared.between.Between.{Between}
use Rattle.spec_nal_units.specs.Judged.{Told}
use Rattle.spec_picture_plan.specs.Planned.{Planned, planned_from, planned_next}
use Rattle.picture_plan.specs.Flights.{goes_on_with, pictures_of, waiting}
use Rattle.picture_plan.specs.Plans.{Given, Plans, behind_unit, given_of, stop_of}
use Rattle.flight_laws.specs.Runs.{behind_flights}

-- a call for each of these units, and then a last one
abbrev pub over : (Plans → Given) → Plans → List Told → Given
over last p [] = last p
over last p (t ∷ ts) = behind_flights (behind_unit p (t ∷ [])).flights (over last (behind_unit p (t ∷ [])).left ts)

-- no last call: more units may come
abbrev pub still : Plans → Given
still p = given_of p.ahead p.next (waiting p.pending)

-- the pictures of these units behind what is known already
abbrev pub planned_behind : Bool → Result Between Stop → List Told → Planned
planned_behind ended next told = planned_next next (λ s. planned_from ended s told)

-- the pictures of the flights and those that wait for their flight's end are those that waited before and then those
-- that are planned, each once and in their order; the same pictures go out at the end, and the same stops the stream
pub record AreGiven (before : List PicturePlan) (g : Given) (p : Planned) : Type 0 where
  pub pictures : pictures_of g.flights ++ g.left.pending ≡ before ++ p.pictures
  pub last : g.last ≡ p.last
  pub stop : stop_of g.left.next ≡ p.stop

-- all pictures are in flights
pub record AreAllGiven (before : List PicturePlan) (g : Given) (p : Planned) : Type 0 where
  pub pictures : pictures_of g.flights ≡ before ++ p.pictures
  pub last : g.last ≡ p.last
  pub stop : stop_of g.left.next ≡ p.stop
  pub none : g.left.pending ≡ []

-- a flight couldn't have taken the next picture, the first of these: it is full, or that picture is of another sequence
-- parameter set; where there is no next picture yet, it is full
abbrev pub IsShut : ℕ → List PicturePlan → List PicturePlan → Type 0
IsShut ahead flight [] = ahead ≤ length flight
IsShut ahead flight (p ∷ later) = (ahead ≤ length flight) ⊎ (goes_on_with flight p.sps ≡ false)

-- no flight but the last could have taken the next picture
abbrev pub AreMaximal : ℕ → List (List PicturePlan) → Type 0
AreMaximal ahead [] = Unit {0}
AreMaximal ahead (flight ∷ []) = Unit {0}
AreMaximal ahead (flight ∷ next ∷ later) = IsShut ahead flight next × AreMaximal ahead (next ∷ later)

abbrev pub if_any : List PicturePlan → List (List PicturePlan)
if_any [] = []
if_any (p ∷ pictures) = (p ∷ pictures) ∷ []

-- the flights, and the pending pictures as another
abbrev pub with_pending : Given → List (List PicturePlan)
with_pending g = g.flights ++ if_any g.left.pending
