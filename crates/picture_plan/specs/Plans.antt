-- What a planner holds, and what each of its calls gives and leaves.
use Rattle.std.specs.Prelude.{ℕ, List, [], ◌∷◌, Option, Some, None, Result, Ok, Err}
use Rattle.hv_base.specs.declared.refusal.Stop.{Stop}
use Rattle.plan_types.specs.declared.picture_plan.PicturePlan.{PicturePlan}
use Rattle.spec_nal_units.specs.Judged.{Told}
use Rattle.plan_types.specs.declared.between.Between.{Between}
use Rattle.spec_picture_plan.specs.Steps.{Stepped, close, step}
use Rattle.spec_picture_plan.specs.Planned.{last_of}
use Rattle.picture_plan.specs.Flights.{Gathered, waiting, cut, with_pictures, cut_at_stop}

-- how many pictures a flight has at most, the pictures that wait for their flight's end, and what is known behind the
-- units so far, or what stopped the stream
pub record Plans : Type 0 where
  pub ahead : ℕ
  pub pending : List PicturePlan
  pub next : Result Between Stop

-- the flights that a call gives, which pictures of the buffer behind the last one go out where the input ends, by their
-- places, and what the call leaves
pub record Given : Type 0 where
  pub flights : List (List PicturePlan)
  pub last : List ℕ
  pub left : Plans

abbrev pub given_of : ℕ → Result Between Stop → Gathered → Given
given_of ahead next g =
    record { flights = g.flights; last = []; left = record { ahead = ahead; pending = g.pending; next = next } }

abbrev pub after_step : Plans → Stepped → Given
after_step p t = given_of p.ahead t.next (cut_at_stop t.next (with_pictures p.ahead (waiting p.pending) t.closed))

-- what a unit tells is one step, and where it tells nothing nothing changes
abbrev pub stepped : Between → List Told → Stepped
stepped s [] = record { closed = []; next = Ok s }
stepped s (t ∷ later) = step s t

-- nothing follows a stop
abbrev pub going_on : Plans → Result Between Stop → (Between → Given) → Given
going_on p (Err e) f = given_of p.ahead (Err e) (waiting p.pending)
going_on p (Ok s) f = f s

-- behind what a unit tells, if anything
unfoldable pub behind_unit : Plans → List Told → Given
behind_unit p told = going_on p p.next (λ s. after_step p (stepped s told))

abbrev pub all_cut : Given → Given
all_cut g = given_of g.left.ahead g.left.next (cut (record { flights = g.flights; pending = g.left.pending }))

-- where nothing stopped the stream, the pictures that wait go out behind the open one
abbrev pub last_behind : Result Between Stop → List ℕ
last_behind (Err e) = []
last_behind (Ok s) = last_of (close s).next

abbrev pub with_last : List ℕ → Given → Given
with_last last g = record { flights = g.flights; last = last; left = g.left }

-- the input ends: the open picture is closed, and the flight that is pending ends
unfoldable pub at_end : Plans → Given
at_end p = with_last (last_behind p.next) (all_cut (going_on p p.next (λ s. after_step p (close s))))

-- the flight that is pending ends, and no picture is closed
unfoldable pub halted : Plans → Given
halted p = all_cut (given_of p.ahead p.next (waiting p.pending))

abbrev pub stop_of : Result Between Stop → Option Stop
stop_of (Ok s) = None
stop_of (Err e) = Some e

-- where the stream stops, what is pending ends too
abbrev pub cut_of : Option Stop → Gathered → Gathered
cut_of None g = g
cut_of (Some e) g = cut g
