-- What the steps of a planner end and leave.
use Rattle.std.specs.Prelude.{ℕ, List, ◌++◌, Option, Result, Ok, Err}
use Rattle.hv_base.specs.declared.refusal.Stop.{Stop}
use Rattle.plan_types.specs.declared.picture_plan.PicturePlan.{PicturePlan}
use Rattle.plan_types.specs.declared.between.Between.{Between}
use Rattle.spec_picture_plan.specs.Steps.{Stepped}
use Rattle.picture_plan.specs.declared.flight.Ended.{Ended}
use Rattle.picture_plan.specs.declared.step.Step.{Step}
use Rattle.picture_plan.specs.Flights.{Gathered, some_flight, waiting, with_pictures}
use Rattle.picture_plan.specs.Plans.{Plans}
use Rattle.picture_plan.specs.declared.change.Change.{Change}
use Rattle.picture_plan.specs.Changes.{applied, next_of}
use Rattle.picture_plan.specs.States.{Held}

-- what a planner holds
abbrev pub held : Option Stop → Held → Plans
held stopped h = record { ahead = h.ahead; pending = h.pending; next = next_of stopped h.between }

abbrev pub ended_by : Ended → List (List PicturePlan)
ended_by e = some_flight e.changed ++ some_flight e.full

-- the flights that a step ended and the pictures that then wait, and what is known behind it or what stops the stream
pub record Left : Type 0 where
  pub ahead : ℕ
  pub gathered : Gathered
  pub next : Result Between Stop

abbrev pub left_by : Step → Held → Left
left_by step h =
    record {
      ahead = h.ahead;
      gathered = record { flights = ended_by step.ended; pending = h.pending };
      next = next_of step.stop h.between;
    }

-- what is left where a step closes these pictures
abbrev pub taken : Held → Stepped → Left
taken h t = record { ahead = h.ahead; gathered = with_pictures h.ahead (waiting h.pending) t.closed; next = t.next }

abbrev pub next_behind : Result Between Stop → Change → Result Between Stop
next_behind (Ok s) change = applied s change
next_behind (Err e) change = Err e

-- what is left where a change follows, if nothing stopped the stream
abbrev pub changed_behind : Left → Change → Left
changed_behind left change =
    record { ahead = left.ahead; gathered = left.gathered; next = next_behind left.next change }
