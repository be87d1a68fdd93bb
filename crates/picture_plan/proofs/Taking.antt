-- What a planner gives at the end of the input.
use Rattle.std.proofs.Common.{◌≡◌, ℕ, false, is_some, List, [], ◌∷◌, ◌++◌, Option, Some, None, Result, Ok, Err, refl}
use Rattle.std.proofs.Common.{sym, ap, ◌∙◌, append-nil}
use Rattle.hv_base.specs.declared.refusal.Stop.{Stop}
use Rattle.plan_types.specs.declared.picture_plan.PicturePlan.{PicturePlan}
use Rattle.plan_types.specs.declared.between.Between.{Between}
use Rattle.spec_picture_plan.specs.Planned.{last_of}
use Rattle.spec_picture_plan.specs.Steps.{Stepped, close}
use Rattle.picture_plan.specs.declared.step.Step.{Step}
use Rattle.picture_plan.specs.Changes.{next_of}
use Rattle.picture_plan.specs.Flights.{Gathered, cut, cut_at_stop, ended, some_flight, waiting, with_pictures}
use Rattle.picture_plan.specs.Plans.{at_end}
use Rattle.picture_plan.specs.States.{Held}
use Rattle.picture_plan.specs.Taken.{Left, ended_by, held, left_by, taken}

-- the flight that was pending comes behind the others
cut-behind : (flights : List (List PicturePlan)) (pending : List PicturePlan)
    → (ended (record { flights = flights; pending = pending }) pending)
    ≡ record { flights = flights ++ (ended (waiting pending) pending).flights; pending = [] }
cut-behind flights [] = rw (append-nil flights) refl
cut-behind flights (p ∷ pictures) = refl

-- what is cut stays as it is
cut-again : (g : Gathered) → cut (cut g) ≡ cut g
cut-again g = let e = cut-behind g.flights g.pending in rw e refl

cut-cut_at_stop : (next : Result Between Stop) (g : Gathered) → cut (cut_at_stop next g) ≡ cut g
cut-cut_at_stop (Ok s) g = refl
cut-cut_at_stop (Err e) g = cut-again g

-- the flights and the pictures that go out at the end, and what a planner holds behind it
taken-last : (h new : Held) (step : Step) (last : List ℕ) (pending : Option (List PicturePlan))
    (flights : List (List PicturePlan))
    → left_by step new ≡ taken h (close h.between) → last ≡ last_of (close h.between).next
    → some_flight pending ≡ (cut (waiting new.pending)).flights → flights ≡ ended_by step.ended ++ some_flight pending
    → at_end (held None h)
    ≡ record { flights = flights; last = last; left = held step.stop (record new { pending = [] }) }
unfolding at_end
taken-last h new step last pending flights e l f is =
    let t : Stepped = close h.between in
    let g : Gathered = with_pictures h.ahead (waiting h.pending) t.closed in
    let gathered : record { flights = ended_by step.ended; pending = new.pending } ≡ g =
    ap (λ (x : Left). x.gathered) e in
    let next : next_of step.stop new.between ≡ t.next = ap (λ (x : Left). x.next) e in
    let ahead : new.ahead ≡ h.ahead = ap (λ (x : Left). x.ahead) e in
    let all : cut (cut_at_stop t.next g)
    ≡ record { flights = ended_by step.ended ++ (cut (waiting new.pending)).flights; pending = [] } =
    cut-cut_at_stop t.next g ∙ ap cut (sym gathered) ∙ cut-behind (ended_by step.ended) new.pending in
    rw (all, is, f, l, next, ahead) refl

pub taken-end : (stopped : Option Stop) (h new : Held) (step : Step) (last : List ℕ)
    (pending : Option (List PicturePlan)) (flights : List (List PicturePlan))
    → is_some stopped ≡ false → left_by step new ≡ taken h (close h.between) → last ≡ last_of (close h.between).next
    → some_flight pending ≡ (cut (waiting new.pending)).flights → flights ≡ ended_by step.ended ++ some_flight pending
    → at_end (held stopped h)
    ≡ record { flights = flights; last = last; left = held step.stop (record new { pending = [] }) }
taken-end None h new step last pending flights none e l f is = taken-last h new step last pending flights e l f is
taken-end (Some stop) h new step last pending flights none e l f is = absurd cc
