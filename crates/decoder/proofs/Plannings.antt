-- What a planner's calls leave to be written.
use Rattle.std.proofs.Common.{◌≡◌, ℕ, Bool, true, false, List, [], ◌∷◌, ◌++◌, Option, Some, None, Result, Ok, Err}
use Rattle.std.proofs.Common.{refl}
use Rattle.std.proofs.Common.{sym, ap, subst, ◌∙◌, append_assoc, append-nil}
use Rattle.hv_base.specs.declared.refusal.Stop.{Stop}
use Rattle.hv_base.specs.declared.refusal.Stop.TheVariants as stop
use Rattle.hv_base.specs.declared.fault.Fault.{Fault}
use Rattle.hv_base.specs.declared.limit.Limit.{Limit}
use Rattle.plan_types.specs.declared.picture_plan.PicturePlan.{PicturePlan}
use Rattle.spec_nal_units.specs.Judged.{Told, Broken, Met}
use Rattle.plan_types.specs.declared.between.Between.{Between}
use Rattle.spec_picture_plan.specs.Steps.{Stepped, step, close, closing, then_next}
use Rattle.spec_picture_plan.specs.Planned as plan
use Rattle.spec_picture_plan.specs.Planned.{Planned, behind_closed, planned_next, planned_from, planned_end}
use Rattle.picture_plan.specs.Flights.{Gathered, waiting, cut, with_pictures, cut_at_stop, pictures_of}
use Rattle.picture_plan.specs.Plans.{Plans, Given, going_on, after_step, behind_unit, all_cut, at_end, halted}
use Rattle.picture_plan.specs.Plans.{last_behind, stop_of}
use Rattle.picture_plan.proofs.Pictures.{step-all, cut-all, cut-none}
use Rattle.spec_decoder.specs.Decoder.{BufferPicture, decoded_from, finished}
use Rattle.decoder.specs.Owed.{planned_behind, decoded_behind, owed_behind}

joined-closed : (a b c d : List PicturePlan) (x : Planned) → a ++ b ≡ c ++ d
    → behind_closed c (behind_closed d x) ≡ behind_closed a (behind_closed b x)
joined-closed a b c d x e =
    ap (λ (ps : List PicturePlan). let q : Planned = record { pictures = ps; last = x.last; stop = x.stop } in q)
    (sym (append_assoc c d x.pictures) ∙ ap (λ (ps : List PicturePlan). ps ++ x.pictures) (sym e)
    ∙ append_assoc a b x.pictures)

-- the pictures of a step's flights, and what is planned behind them
after-step : (ended : Bool) (p : Plans) (s : Between) (t : Told) (later : List Told)
    → behind_closed p.pending (planned_from ended s (t ∷ later))
    ≡ behind_closed (pictures_of (after_step p (step s t)).flights)
    (planned_behind ended (after_step p (step s t)).left later)
unfolding planned_behind
after-step ended p s t later =
    let u : Stepped = step s t in
    let g : Given = after_step p u in
    joined-closed (pictures_of g.flights) g.left.pending p.pending u.closed
    (planned_next u.next (λ n. planned_from ended n later))
    (step-all p.ahead p.pending u.closed u.next)

unit-next : (ended : Bool) (p : Plans) (next : Result Between Stop) (t : Told) (later : List Told)
    → behind_closed p.pending (planned_next next (λ s. planned_from ended s (t ∷ later)))
    ≡ behind_closed (pictures_of (going_on p next (λ s. after_step p (step s t))).flights)
    (planned_behind ended (going_on p next (λ s. after_step p (step s t))).left later)
unfolding planned_behind
unit-next ended p (Ok s) t later = after-step ended p s t later
unit-next ended p (Err e) t later = refl

pub planned-unit : (ended : Bool) (p : Plans) (t : Told) (later : List Told)
    → planned_behind ended p (t ∷ later)
    ≡ behind_closed (pictures_of (behind_unit p (t ∷ [])).flights)
    (planned_behind ended (behind_unit p (t ∷ [])).left later)
unfolding planned_behind behind_unit
planned-unit ended p t later = unit-next ended p p.next t later

-- a unit's flights come first, and then what is owed behind them
pub owed-unit : (hash : Bool) (ended : Bool) (p : Plans) (old : List BufferPicture) (t : Told) (later : List Told)
    → (d : Planned)
    × (owed_behind hash ended p old (t ∷ later)
    ≡ decoded_from hash (finished d.last d.stop) (pictures_of (behind_unit p (t ∷ [])).flights ++ d.pictures) old)
    × ((new : List BufferPicture)
    → owed_behind hash ended (behind_unit p (t ∷ [])).left new later
    ≡ decoded_from hash (finished d.last d.stop) d.pictures new)
unfolding owed_behind
owed-unit hash ended p old t later = (
  planned_behind ended (behind_unit p (t ∷ [])).left later,
  ap (decoded_behind hash old) (planned-unit ended p t later),
  λ new. refl,
)

-- nothing goes out at the input's end behind a unit
next-last : (p : Plans) (next : Result Between Stop) (t : Told)
    → (going_on p next (λ s. after_step p (step s t))).last ≡ []
next-last p (Ok s) t = refl
next-last p (Err e) t = refl

pub unit-last : (p : Plans) (t : Told) → (behind_unit p (t ∷ [])).last ≡ []
unfolding behind_unit
unit-last p t = next-last p p.next t

-- nothing waits behind a stop
stopped-pending : (p : Plans) (u : Stepped) (e : Stop) → u.next ≡ Err e → (after_step p u).left.pending ≡ []
stopped-pending p u e is =
    subst (λ (next : Result Between Stop). (cut_at_stop next
    (with_pictures p.ahead (waiting p.pending) u.closed)).pending
    ≡ [])
    (sym is)
    (cut-none (with_pictures p.ahead (waiting p.pending) u.closed))

unit-stopped : (p : Plans) (next : Result Between Stop) (t : Told) (e : Stop) → stop_of next ≡ None
    → (going_on p next (λ s. after_step p (step s t))).left.next ≡ Err e
    → (going_on p next (λ s. after_step p (step s t))).left.pending ≡ []
unit-stopped p (Ok s) t e going is = stopped-pending p (step s t) e is
unit-stopped p (Err f) t e going is = absurd cc

stop-is : (next : Result Between Stop) (e : Stop) → stop_of next ≡ Some e → next ≡ Err e
stop-is (Ok s) e is = absurd cc
stop-is (Err f) e is = cc

stopped-owed : (ended : Bool) (p : Plans) (later : List Told) (e : Stop) → p.pending ≡ [] → p.next ≡ Err e
    → planned_behind ended p later ≡ record { pictures = []; last = []; stop = Some e }
unfolding planned_behind
stopped-owed ended p later e none is =
    ap (λ (ps : List PicturePlan). behind_closed ps (planned_next p.next (λ s. planned_from ended s later))) none
    ∙ ap (λ (next : Result Between Stop). behind_closed [] (planned_next next (λ s. planned_from ended s later))) is

-- where a unit stops the stream, its flights are the last
pub owed-stopped : (hash : Bool) (ended : Bool) (p : Plans) (buffer : List BufferPicture) (t : Told)
    (later : List Told) (e : Stop)
    → stop_of p.next ≡ None → stop_of (behind_unit p (t ∷ [])).left.next ≡ Some e
    → owed_behind hash ended p buffer (t ∷ later)
    ≡ decoded_from hash (finished [] (Some e)) (pictures_of (behind_unit p (t ∷ [])).flights) buffer
unfolding owed_behind behind_unit
owed-stopped hash ended p buffer t later e going is =
    let g : Given = behind_unit p (t ∷ []) in
    let next : g.left.next ≡ Err e = stop-is g.left.next e is in
    ap (decoded_behind hash buffer) (planned-unit ended p t later)
    ∙ ap (λ (d : Planned). decoded_behind hash buffer (behind_closed (pictures_of g.flights) d))
    (stopped-owed ended g.left later e (unit-stopped p p.next t e going next) next)
    ∙ ap (λ (ps : List PicturePlan). decoded_from hash (finished [] (Some e)) ps buffer) (append-nil
    (pictures_of g.flights))

same_stop : (next : Result Between Stop) → plan.stop_of next ≡ stop_of next
same_stop (Ok s) = refl
same_stop (Err e) = refl

-- what a cut leaves: all pictures are in flights
cut-flights : (g : Gathered) → pictures_of (cut g).flights ≡ pictures_of g.flights ++ g.pending
cut-flights g =
    sym (append-nil (pictures_of (cut g).flights))
    ∙ ap (λ (ps : List PicturePlan). pictures_of (cut g).flights ++ ps) (sym (cut-none g)) ∙ cut-all g

last-of : (hash : Bool) (x : Planned) (buffer : List BufferPicture) (ps : List PicturePlan) (last : List ℕ)
    (next : Result Between Stop)
    → x.pictures ≡ ps → x.last ≡ last → x.stop ≡ stop_of next
    → decoded_behind hash buffer x ≡ decoded_from hash (finished last (stop_of next)) ps buffer
last-of hash x buffer ps last next a b c =
    ap (λ (end : Option Stop). decoded_from hash (finished x.last end) x.pictures buffer) c
    ∙ ap (λ (places : List ℕ). decoded_from hash (finished places (stop_of next)) x.pictures buffer) b
    ∙ ap (λ (qs : List PicturePlan). decoded_from hash (finished last (stop_of next)) qs buffer) a

end-next : (hash : Bool) (p : Plans) (buffer : List BufferPicture) (next : Result Between Stop)
    → decoded_behind hash buffer (behind_closed p.pending (planned_next next (λ s. planned_end true s)))
    ≡ decoded_from hash (finished (last_behind next)
    (stop_of (all_cut (going_on p next (λ s. after_step p (close s)))).left.next))
    (pictures_of (all_cut (going_on p next (λ s. after_step p (close s)))).flights) buffer
end-next hash p buffer (Ok s) =
    let u : Stepped = close s in
    let g : Given = after_step p u in
    last-of hash (behind_closed p.pending (planned_end true s)) buffer (pictures_of (all_cut g).flights)
    (last_behind (Ok s)) u.next
    (sym (step-all p.ahead p.pending u.closed u.next)
    ∙ sym (cut-flights (record { flights = g.flights; pending = g.left.pending })))
    refl
    (same_stop u.next)
end-next hash p buffer (Err e) =
    last-of hash (behind_closed p.pending (record { pictures = []; last = []; stop = Some e })) buffer
    (pictures_of (cut (waiting p.pending)).flights) [] (Err e)
    (append-nil p.pending ∙ sym (cut-flights (waiting p.pending)))
    refl
    refl

-- the input's end
pub owed-end : (hash : Bool) (p : Plans) (buffer : List BufferPicture)
    → owed_behind hash true p buffer []
    ≡ decoded_from hash (finished (at_end p).last (stop_of (at_end p).left.next)) (pictures_of
    (at_end p).flights) buffer
unfolding owed_behind planned_behind at_end
owed-end hash p buffer = end-next hash p buffer p.next

halt-next : (hash : Bool) (p : Plans) (buffer : List BufferPicture) (next : Result Between Stop)
    → decoded_behind hash buffer (behind_closed p.pending (planned_next next (λ s. planned_end false s)))
    ≡ decoded_from hash (finished [] (stop_of next)) (pictures_of (cut (waiting p.pending)).flights) buffer
halt-next hash p buffer (Ok s) =
    last-of hash (behind_closed p.pending (planned_end false s)) buffer (pictures_of (cut
    (waiting p.pending)).flights) []
    (Ok s)
    (append-nil p.pending ∙ sym (cut-flights (waiting p.pending)))
    refl
    refl
halt-next hash p buffer (Err e) =
    last-of hash (behind_closed p.pending (record { pictures = []; last = []; stop = Some e })) buffer
    (pictures_of (cut (waiting p.pending)).flights) [] (Err e)
    (append-nil p.pending ∙ sym (cut-flights (waiting p.pending)))
    refl
    refl

-- no more units, though the input hasn't ended
pub owed-halt : (hash : Bool) (p : Plans) (buffer : List BufferPicture)
    → owed_behind hash false p buffer []
    ≡ decoded_from hash (finished (halted p).last (stop_of (halted p).left.next)) (pictures_of
    (halted p).flights) buffer
unfolding owed_behind planned_behind halted
owed-halt hash p buffer = halt-next hash p buffer p.next

then-stops : (closed : List PicturePlan) (next : Result Between Stop) (e : Stop)
    → stop_of (then_next closed next (λ t. Err e)).next ≡ None → ⊥
then-stops closed (Ok s) e is = absurd cc
then-stops closed (Err f) e is = absurd cc

closing-stops : (s : Between) (e : Stop) → stop_of (closing s (λ t. Err e)).next ≡ None → ⊥
closing-stops s e is = then-stops (close s).closed (close s).next e is

broken-next : (p : Plans) (next : Result Between Stop) (f : Fault)
    → stop_of (going_on p next (λ s. after_step p (step s (Broken f)))).left.next ≡ None → ⊥
unfolding step
broken-next p (Ok s) f is = closing-stops s (stop.Fault f) is
broken-next p (Err e) f is = absurd cc

met-next : (p : Plans) (next : Result Between Stop) (l : Limit)
    → stop_of (going_on p next (λ s. after_step p (step s (Met l)))).left.next ≡ None → ⊥
unfolding step
met-next p (Ok s) l is = closing-stops s (stop.Limit l) is
met-next p (Err e) l is = absurd cc

-- a broken rule or a limit stops the stream
pub broken-stops : (p : Plans) (f : Fault) → stop_of (behind_unit p (Broken f ∷ [])).left.next ≡ None → ⊥
unfolding behind_unit
broken-stops p f is = broken-next p p.next f is

pub met-stops : (p : Plans) (l : Limit) → stop_of (behind_unit p (Met l ∷ [])).left.next ≡ None → ⊥
unfolding behind_unit
met-stops p l is = met-next p p.next l is
