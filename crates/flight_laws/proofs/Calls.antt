-- The flights over a stream of units hold the pictures that are planned.
use Rattle.std.proofs.Common.{◌≡◌, ℕ, Bool, true, false, List, [], ◌∷◌, ◌++◌, Result, Ok, Err, refl, sym, ap, ◌∙◌}
use Rattle.std.proofs.Common.{append_assoc, append-nil}
use Rattle.hv_base.specs.declared.refusal.Stop.{Stop}
use Rattle.plan_types.specs.declared.picture_plan.PicturePlan.{PicturePlan}
use Rattle.plan_types.specs.declared.between.Between.{Between}
use Rattle.spec_nal_units.specs.Judged.{Told}
use Rattle.spec_picture_plan.specs.Steps.{Stepped, close, step}
use Rattle.spec_picture_plan.specs.Planned.{Planned, behind_closed}
use Rattle.picture_plan.specs.Flights.{Gathered, cut_at_stop, pictures_of, waiting, with_pictures}
use Rattle.picture_plan.specs.Plans.{Given, Plans, after_step, at_end, behind_unit, going_on, halted}
use Rattle.flight_laws.specs.Runs.{behind_flights}
use Rattle.flight_laws.specs.Calls.{AreAllGiven, AreGiven, over, planned_behind, still}
use Rattle.picture_plan.proofs.Pictures.{cut-all, cut-none, pictures_of-append, step-all}
use Rattle.flight_laws.proofs.Whole.{end-goes, stopped-goes}

-- what a last call gives holds what waits and what is planned behind it
abbrev EndGives : Bool → (Plans → Given) → Type 0
EndGives ended last = (p : Plans) → AreGiven p.pending (last p) (planned_behind ended p.next [])

unit-gives : (pending closed : List PicturePlan) (g : Gathered) (r : Given) (p : Planned)
    → pictures_of g.flights ++ g.pending ≡ pending ++ closed → AreGiven g.pending r p
    → AreGiven pending (behind_flights g.flights r) (behind_closed closed p)
unit-gives pending closed g r p all h = record {
  pictures = ap (λ (ps : List PicturePlan). ps ++ r.left.pending) (pictures_of-append g.flights r.flights)
      ∙ append_assoc (pictures_of g.flights) (pictures_of r.flights) r.left.pending
      ∙ ap (λ (ps : List PicturePlan). pictures_of g.flights ++ ps) h.pictures
      ∙ sym (append_assoc (pictures_of g.flights) g.pending p.pictures)
      ∙ ap (λ (ps : List PicturePlan). ps ++ p.pictures) all
      ∙ append_assoc pending closed p.pictures;
  last = h.last;
  stop = h.stop;
}

over-gives : (ended : Bool) (last : Plans → Given) → EndGives ended last
    → (ahead : ℕ) (pending : List PicturePlan) (next : Result Between Stop) (ts : List Told)
    → AreGiven pending (over last (record { ahead = ahead; pending = pending; next = next }) ts)
    (planned_behind ended next ts)
unfolding behind_unit
over-gives ended last ends ahead pending next [] = ends (record { ahead = ahead; pending = pending; next = next })
over-gives ended last ends ahead pending (Err e) (t ∷ ts) =
    let h = over-gives ended last ends ahead pending (Err e) ts in
    record { pictures = h.pictures; last = h.last; stop = h.stop }
over-gives ended last ends ahead pending (Ok s) (t ∷ ts) =
    let u : Stepped = step s t in
    let g : Gathered = cut_at_stop u.next (with_pictures ahead (waiting pending) u.closed) in
    unit-gives pending u.closed g _ _ (step-all ahead pending u.closed u.next)
    (over-gives ended last ends ahead g.pending u.next ts)

-- ---- the last calls

still-gives : (ahead : ℕ) (pending : List PicturePlan) (next : Result Between Stop)
    → AreGiven pending (still (record { ahead = ahead; pending = pending; next = next })) (planned_behind false next [])
still-gives ahead pending (Ok s) = record { pictures = sym (append-nil pending); last = refl; stop = refl }
still-gives ahead pending (Err e) = record { pictures = sym (append-nil pending); last = refl; stop = refl }

halted-gives : (ahead : ℕ) (pending : List PicturePlan) (next : Result Between Stop)
    → AreGiven pending (halted (record { ahead = ahead; pending = pending; next = next }))
    (planned_behind false next [])
unfolding halted
halted-gives ahead pending (Ok s) =
    record { pictures = cut-all (waiting pending) ∙ sym (append-nil pending); last = refl; stop = refl }
halted-gives ahead pending (Err e) =
    record { pictures = cut-all (waiting pending) ∙ sym (append-nil pending); last = refl; stop = refl }

pub halted-none : (p : Plans) → (halted p).left.pending ≡ []
unfolding halted
halted-none p = cut-none (waiting p.pending)

pub end-none : (p : Plans) → (at_end p).left.pending ≡ []
unfolding at_end
end-none p =
    let g : Given = going_on p p.next (λ s. after_step p (close s)) in
    cut-none (record { flights = g.flights; pending = g.left.pending })

none-append : (xs ys zs : List PicturePlan) → xs ≡ zs → ys ≡ [] → xs ++ ys ≡ zs
none-append xs ys zs e none = ap (λ (ps : List PicturePlan). xs ++ ps) none ∙ append-nil xs ∙ e

end-gives : (ahead : ℕ) (pending : List PicturePlan) (next : Result Between Stop)
    → AreGiven pending (at_end (record { ahead = ahead; pending = pending; next = next })) (planned_behind true next [])
end-gives ahead pending (Ok s) =
    let h = end-goes ahead pending s in
    record {
      pictures = none-append _ _ _ h.pictures (end-none (record { ahead = ahead; pending = pending; next = Ok s }));
      last = h.last;
      stop = h.stop;
    }
end-gives ahead pending (Err e) =
    let h = stopped-goes ahead pending e [] in
    record {
      pictures = none-append _ _ _ h.pictures (end-none (record { ahead = ahead; pending = pending; next = Err e }));
      last = h.last;
      stop = h.stop;
    }

over-none : (last : Plans → Given) → ((p : Plans) → (last p).left.pending ≡ [])
    → (p : Plans) (ts : List Told) → (over last p ts).left.pending ≡ []
over-none last none p [] = none p
over-none last none p (t ∷ ts) = over-none last none (behind_unit p (t ∷ [])).left ts

all_given : (before : List PicturePlan) (g : Given) (p : Planned) → AreGiven before g p → g.left.pending ≡ []
    → AreAllGiven before g p
all_given before g p h none = record {
  pictures =
      sym (append-nil (pictures_of g.flights)) ∙ sym (ap (λ (ps : List PicturePlan). pictures_of g.flights ++ ps) none)
      ∙ h.pictures;
  last = h.last;
  stop = h.stop;
  none = none;
}

pub so_far : (p : Plans) (told : List Told) → AreGiven p.pending (over still p told) (planned_behind false p.next told)
so_far p told = over-gives false still (λ q. still-gives q.ahead q.pending q.next) p.ahead p.pending p.next told

pub where_halted : (p : Plans) (told : List Told)
    → AreAllGiven p.pending (over halted p told) (planned_behind false p.next told)
where_halted p told =
    all_given p.pending (over halted p told) (planned_behind false p.next told)
    (over-gives false halted (λ q. halted-gives q.ahead q.pending q.next) p.ahead p.pending p.next told)
    (over-none halted halted-none p told)

pub where_finished : (p : Plans) (told : List Told)
    → AreAllGiven p.pending (over at_end p told) (planned_behind true p.next told)
where_finished p told =
    all_given p.pending (over at_end p told) (planned_behind true p.next told)
    (over-gives true at_end (λ q. end-gives q.ahead q.pending q.next) p.ahead p.pending p.next told)
    (over-none at_end end-none p told)
