-- The flights over a whole input.
use Rattle.std.proofs.Common.{◌≡◌, ℕ, true, List, [], ◌∷◌, ◌++◌, Some, Result, Ok, Err, refl, sym, ap, ◌∙◌}
use Rattle.std.proofs.Common.{append_assoc, append-nil}
use Rattle.hv_base.specs.declared.refusal.Stop.{Stop}
use Rattle.plan_types.specs.declared.picture_plan.PicturePlan.{PicturePlan}
use Rattle.spec_nal_units.specs.Judged.{Told}
use Rattle.plan_types.specs.declared.between.Between.{Between}
use Rattle.spec_picture_plan.specs.Pictures.{beginning}
use Rattle.spec_picture_plan.specs.Steps.{Stepped, close, step}
use Rattle.spec_picture_plan.specs.Planned.{Planned, behind_closed, planned_next, planned_from}
use Rattle.spec_picture_plan.specs.Planned.{stop_of as planned_stop}
use Rattle.picture_plan.specs.Flights.{Gathered, cut, waiting, with_pictures, cut_at_stop, pictures_of}
use Rattle.picture_plan.specs.Plans.{Given, behind_unit, at_end, stop_of}
use Rattle.flight_laws.specs.Runs.{new_plans, run, behind_flights, ArePlanned}
use Rattle.picture_plan.proofs.Pictures.{pictures_of-append, cut-all, cut-none, step-all}

-- the pictures and the stop of what a planner gives are those that are planned, behind what waited
pub record Goes (g : Given) (waited : List PicturePlan) (p : Planned) : Type 0 where
  pub pictures : pictures_of g.flights ≡ waited ++ p.pictures
  pub last : g.last ≡ p.last
  pub stop : stop_of g.left.next ≡ p.stop

stops : (next : Result Between Stop) → stop_of next ≡ planned_stop next
stops (Ok s) = refl
stops (Err e) = refl

-- all that waits is cut at the end
pub cut-pictures : (g : Gathered) → pictures_of (cut g).flights ≡ pictures_of g.flights ++ g.pending
cut-pictures g =
    sym (append-nil (pictures_of (cut g).flights))
    ∙ sym (ap (λ (ps : List PicturePlan). pictures_of (cut g).flights ++ ps) (cut-none g)) ∙ cut-all g

pub end-goes : (ahead : ℕ) (pending : List PicturePlan) (s : Between)
    → Goes (at_end (record { ahead = ahead; pending = pending; next = Ok s })) pending (planned_from true s [])
unfolding at_end
end-goes ahead pending s =
    let t : Stepped = close s in
    let g : Gathered = cut_at_stop t.next (with_pictures ahead (waiting pending) t.closed) in
    record {
      pictures = cut-pictures g ∙ step-all ahead pending t.closed t.next;
      last = refl;
      stop = stops t.next;
    }

-- behind a stop nothing comes but what waited
pub stopped-goes : (ahead : ℕ) (pending : List PicturePlan) (e : Stop) (ts : List Told)
    → Goes (run (record { ahead = ahead; pending = pending; next = Err e }) ts) pending
    (record { pictures = []; last = []; stop = Some e })
unfolding at_end behind_unit
stopped-goes ahead pending e [] = record {
  pictures = cut-pictures (waiting pending) ∙ sym (append-nil pending);
  last = refl;
  stop = refl;
}
stopped-goes ahead pending e (t ∷ ts) = stopped-goes ahead pending e ts

next-goes : (ahead : ℕ) (pending : List PicturePlan) (next : Result Between Stop) (ts : List Told)
    → ((s : Between)
    → Goes (run (record { ahead = ahead; pending = pending; next = Ok s }) ts) pending (planned_from true s ts))
    → Goes (run (record { ahead = ahead; pending = pending; next = next }) ts) pending
    (planned_next next (λ n. planned_from true n ts))
next-goes ahead pending (Ok s) ts h = h s
next-goes ahead pending (Err e) ts h = stopped-goes ahead pending e ts

unit-goes : (ahead : ℕ) (pending closed : List PicturePlan) (g : Gathered) (r : Given) (p : Planned)
    → pictures_of g.flights ++ g.pending ≡ pending ++ closed → Goes r g.pending p
    → Goes (behind_flights g.flights r) pending (behind_closed closed p)
unit-goes ahead pending closed g r p all h = record {
  pictures = pictures_of-append g.flights r.flights
      ∙ ap (λ (ps : List PicturePlan). pictures_of g.flights ++ ps) h.pictures
      ∙ sym (append_assoc (pictures_of g.flights) g.pending p.pictures)
      ∙ ap (λ (ps : List PicturePlan). ps ++ p.pictures) all
      ∙ append_assoc pending closed p.pictures;
  last = h.last;
  stop = h.stop;
}

all-goes : (ahead : ℕ) (pending : List PicturePlan) (s : Between) (ts : List Told)
    → Goes (run (record { ahead = ahead; pending = pending; next = Ok s }) ts) pending (planned_from true s ts)
unfolding behind_unit
all-goes ahead pending s [] = end-goes ahead pending s
all-goes ahead pending s (t ∷ ts) =
    let u : Stepped = step s t in
    let g : Gathered = cut_at_stop u.next (with_pictures ahead (waiting pending) u.closed) in
    unit-goes ahead pending u.closed g _ _ (step-all ahead pending u.closed u.next)
    (next-goes ahead g.pending u.next ts (λ n. all-goes ahead g.pending n ts))

pub are_planned : (ahead : ℕ) (told : List Told)
    → ArePlanned (run (new_plans ahead) told) (planned_from true beginning told)
are_planned ahead told =
    let h = all-goes ahead [] beginning told in
    record { pictures = h.pictures; last = h.last; stop = h.stop }
