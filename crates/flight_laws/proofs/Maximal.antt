-- No flight could have taken the next picture.
use Rattle.std.proofs.Common.{◌≡◌, ◌≤◌, inl, inr, ℕ, Bool, true, false, List, [], ◌∷◌, ◌++◌, length, nat_le}
use Rattle.std.proofs.Common.{if◌then◌else◌, Result, Ok, Err, refl, sym, ap, subst, ◌∙◌, append_assoc, append-nil}
use Rattle.std.proofs.lemmas.Bool.{leb-true}
use Rattle.hv_base.specs.declared.refusal.Stop.{Stop}
use Rattle.plan_types.specs.declared.picture_plan.PicturePlan.{PicturePlan}
use Rattle.plan_types.specs.declared.between.Between.{Between}
use Rattle.spec_nal_units.specs.Judged.{Told}
use Rattle.spec_picture_plan.specs.Steps.{Stepped, close, step}
use Rattle.picture_plan.specs.Flights.{Gathered, cut, cut_at_stop, goes_on_with, joined_by, joined_with, waiting}
use Rattle.picture_plan.specs.Flights.{with_picture, with_pictures}
use Rattle.picture_plan.specs.Plans.{Given, Plans, at_end, behind_unit, halted}
use Rattle.flight_laws.specs.Calls.{AreMaximal, IsShut, if_any, over, still, with_pending}

-- the pictures behind a flight: the next flight, or what is pending
abbrev next_of : List (List PicturePlan) → List PicturePlan → List PicturePlan
next_of [] pending = pending
next_of (f ∷ flights) pending = f

-- no flight could have taken the next picture, nor could the last one, if another picture came
abbrev AreShut : ℕ → List (List PicturePlan) → List PicturePlan → Type 0
AreShut ahead [] pending = Unit {0}
AreShut ahead (f ∷ flights) pending = IsShut ahead f (next_of flights pending) × AreShut ahead flights pending

next-push : (flights : List (List PicturePlan)) (f pending : List PicturePlan)
    → next_of (flights ++ f ∷ []) pending ≡ next_of flights f
next-push [] f pending = refl
next-push (g ∷ flights) f pending = refl

-- what is pending ends a flight
push : (ahead : ℕ) (flights : List (List PicturePlan)) (f pending : List PicturePlan) → AreShut ahead flights f
    → IsShut ahead f pending → AreShut ahead (flights ++ f ∷ []) pending
push ahead [] f pending h shut = (shut, tt)
push ahead (g ∷ flights) f pending h shut =
    (subst (IsShut ahead g) (sym (next-push flights f pending)) h.0, push ahead flights f pending h.1 shut)

-- one more picture waits
shut-more : (ahead : ℕ) (f pending : List PicturePlan) (p : PicturePlan) → IsShut ahead f pending
    → IsShut ahead f (pending ++ p ∷ [])
shut-more ahead f [] p h = inl h
shut-more ahead f (q ∷ pending) p h = h

more : (ahead : ℕ) (flights : List (List PicturePlan)) (pending : List PicturePlan) (p : PicturePlan)
    → AreShut ahead flights pending → AreShut ahead flights (pending ++ p ∷ [])
more ahead [] pending p h = tt
more ahead (f ∷ []) pending p h = (shut-more ahead f pending p h.0, tt)
more ahead (f ∷ g ∷ flights) pending p h = (h.0, more ahead (g ∷ flights) pending p h.1)

-- behind these flights, which no picture could join
abbrev Keeps : ℕ → List (List PicturePlan) → Gathered → Type 0
Keeps ahead front g = AreShut ahead (front ++ g.flights) g.pending

other-keeps : (ahead : ℕ) (front flights : List (List PicturePlan)) (pending : List PicturePlan) (p : PicturePlan)
    → AreShut ahead (front ++ flights) pending → goes_on_with pending p.sps ≡ false
    → Keeps ahead front (joined_by (cut (record { flights = flights; pending = pending })) p)
other-keeps ahead front flights [] p h other = absurd cc
other-keeps ahead front flights (q ∷ pending) p h other =
    subst (λ (fs : List (List PicturePlan)). AreShut ahead fs (p ∷ []))
    (append_assoc front flights ((q ∷ pending) ∷ []))
    (push ahead (front ++ flights) (q ∷ pending) (p ∷ []) h (inr other))

joined-by-keeps : (ahead : ℕ) (front : List (List PicturePlan)) (g : Gathered) (p : PicturePlan) → Keeps ahead front g
    → (same : Bool) → goes_on_with g.pending p.sps ≡ same
    → Keeps ahead front (if same then joined_by g p else joined_by (cut g) p)
joined-by-keeps ahead front g p h true is = more ahead (front ++ g.flights) g.pending p h
joined-by-keeps ahead front g p h false is = other-keeps ahead front g.flights g.pending p h is

joined-keeps : (ahead : ℕ) (front : List (List PicturePlan)) (g : Gathered) (p : PicturePlan) → Keeps ahead front g
    → Keeps ahead front (joined_with g p)
unfolding joined_with
joined-keeps ahead front g p h = joined-by-keeps ahead front g p h (goes_on_with g.pending p.sps) refl

full-keeps : (ahead : ℕ) (front flights : List (List PicturePlan)) (pending : List PicturePlan)
    → AreShut ahead (front ++ flights) pending → ahead ≤ length pending
    → Keeps ahead front (cut (record { flights = flights; pending = pending }))
full-keeps ahead front flights [] h full = h
full-keeps ahead front flights (q ∷ pending) h full =
    subst (λ (fs : List (List PicturePlan)). AreShut ahead fs []) (append_assoc front flights ((q ∷ pending) ∷ []))
    (push ahead (front ++ flights) (q ∷ pending) [] h full)

cut-full-keeps : (ahead : ℕ) (front : List (List PicturePlan)) (g : Gathered) → Keeps ahead front g
    → (full : Bool) → nat_le ahead (length g.pending) ≡ full → Keeps ahead front (if full then cut g else g)
cut-full-keeps ahead front g h true is =
    full-keeps ahead front g.flights g.pending h (leb-true ahead (length g.pending) is)
cut-full-keeps ahead front g h false is = h

picture-keeps : (ahead : ℕ) (front : List (List PicturePlan)) (g : Gathered) (p : PicturePlan) → Keeps ahead front g
    → Keeps ahead front (with_picture ahead g p)
unfolding with_picture
picture-keeps ahead front g p h =
    let j : Gathered = joined_with g p in
    cut-full-keeps ahead front j (joined-keeps ahead front g p h) (nat_le ahead (length j.pending)) refl

pictures-keep : (ahead : ℕ) (front : List (List PicturePlan)) (g : Gathered) (closed : List PicturePlan)
    → Keeps ahead front g → Keeps ahead front (with_pictures ahead g closed)
pictures-keep ahead front g [] h = h
pictures-keep ahead front g (p ∷ closed) h =
    pictures-keep ahead front (with_picture ahead g p) closed (picture-keeps ahead front g p h)

-- ---- flights that end where no picture follows

shut-maximal : (ahead : ℕ) (flights : List (List PicturePlan)) (pending : List PicturePlan)
    → AreShut ahead flights pending → AreMaximal ahead (flights ++ if_any pending)
shut-maximal ahead [] [] h = tt
shut-maximal ahead [] (p ∷ pending) h = tt
shut-maximal ahead (f ∷ []) [] h = tt
shut-maximal ahead (f ∷ []) (p ∷ pending) h = (h.0, tt)
shut-maximal ahead (f ∷ g ∷ flights) pending h = (h.0, shut-maximal ahead (g ∷ flights) pending h.1)

-- what was cut is a flight
cut-any : (flights : List (List PicturePlan)) (pending : List PicturePlan)
    → (cut (record { flights = flights; pending = pending })).flights
    ++ if_any (cut (record { flights = flights; pending = pending })).pending
    ≡ flights ++ if_any pending
cut-any flights [] = refl
cut-any flights (p ∷ pending) = append-nil (flights ++ (p ∷ pending) ∷ [])

cut-flights : (flights : List (List PicturePlan)) (pending : List PicturePlan)
    → (cut (record { flights = flights; pending = pending })).flights ≡ flights ++ if_any pending
cut-flights flights [] = sym (append-nil flights)
cut-flights flights (p ∷ pending) = refl

-- what is known of the flights before a call: while nothing stopped the stream another picture may come
abbrev Before : ℕ → List (List PicturePlan) → List PicturePlan → Result Between Stop → Type 0
Before ahead front pending (Ok s) = AreShut ahead front pending
Before ahead front pending (Err e) = AreMaximal ahead (front ++ if_any pending)

before-maximal : (ahead : ℕ) (front : List (List PicturePlan)) (pending : List PicturePlan) (next : Result Between Stop)
    → Before ahead front pending next → AreMaximal ahead (front ++ if_any pending)
before-maximal ahead front pending (Ok s) h = shut-maximal ahead front pending h
before-maximal ahead front pending (Err e) h = h

step-before : (ahead : ℕ) (front : List (List PicturePlan)) (g : Gathered) (next : Result Between Stop)
    → Keeps ahead front g
    → Before ahead (front ++ (cut_at_stop next g).flights) (cut_at_stop next g).pending next
step-before ahead front g (Ok s) h = h
step-before ahead front g (Err e) h =
    let all = shut-maximal ahead (front ++ g.flights) g.pending h in
    subst (AreMaximal ahead)
    (append_assoc front g.flights (if_any g.pending)
    ∙ ap (λ (fs : List (List PicturePlan)). front ++ fs) (sym (cut-any g.flights g.pending))
    ∙ sym (append_assoc front (cut g).flights (if_any (cut g).pending))) all

waiting-keeps : (ahead : ℕ) (front : List (List PicturePlan)) (pending : List PicturePlan) → AreShut ahead front pending
    → Keeps ahead front (waiting pending)
waiting-keeps ahead front pending h =
    subst (λ (fs : List (List PicturePlan)). AreShut ahead fs pending) (sym (append-nil front)) h

-- ---- over a stream of units

-- what a last call gives ends so
abbrev EndsMaximal : (Plans → Given) → Type 0
EndsMaximal last = (front : List (List PicturePlan)) (p : Plans) → Before p.ahead front p.pending p.next
    → AreMaximal p.ahead (front ++ with_pending (last p))

over-maximal : (last : Plans → Given) → EndsMaximal last
    → (ahead : ℕ) (front : List (List PicturePlan)) (pending : List PicturePlan) (next : Result Between Stop)
    (ts : List Told)
    → Before ahead front pending next
    → AreMaximal ahead (front ++ with_pending (over last (record { ahead = ahead; pending = pending; next = next }) ts))
unfolding behind_unit
over-maximal last ends ahead front pending next [] h =
    ends front (record { ahead = ahead; pending = pending; next = next }) h
over-maximal last ends ahead front pending (Err e) (t ∷ ts) h = over-maximal last ends ahead front pending (Err e) ts h
over-maximal last ends ahead front pending (Ok s) (t ∷ ts) h =
    let u : Stepped = step s t in
    let w : Gathered = with_pictures ahead (waiting pending) u.closed in
    let g : Gathered = cut_at_stop u.next w in
    let r : Given = over last (record { ahead = ahead; pending = g.pending; next = u.next }) ts in
    let keeps : Keeps ahead front w =
    pictures-keep ahead front (waiting pending) u.closed (waiting-keeps ahead front pending h) in
    let later =
    over-maximal last ends ahead (front ++ g.flights) g.pending u.next ts (step-before ahead front w u.next keeps) in
    subst (AreMaximal ahead)
    (append_assoc front g.flights (with_pending r)
    ∙ ap (λ (fs : List (List PicturePlan)). front ++ fs)
    (sym (append_assoc g.flights r.flights (if_any r.left.pending))))
    later

still-maximal : EndsMaximal still
still-maximal front p h = before-maximal p.ahead front p.pending p.next h

halted-maximal : EndsMaximal halted
unfolding halted
halted-maximal front p h =
    subst (λ (fs : List (List PicturePlan)). AreMaximal p.ahead (front ++ fs)) (sym (cut-any [] p.pending))
    (before-maximal p.ahead front p.pending p.next h)

end-by-maximal : (front : List (List PicturePlan)) (ahead : ℕ) (pending : List PicturePlan) (next : Result Between Stop)
    → Before ahead front pending next
    → AreMaximal ahead (front ++ with_pending (at_end (record { ahead = ahead; pending = pending; next = next })))
unfolding at_end
end-by-maximal front ahead pending (Err e) h =
    subst (λ (fs : List (List PicturePlan)). AreMaximal ahead (front ++ fs)) (sym (cut-any [] pending)) h
end-by-maximal front ahead pending (Ok s) h =
    let t : Stepped = close s in
    let w : Gathered = with_pictures ahead (waiting pending) t.closed in
    let g : Gathered = cut_at_stop t.next w in
    let keeps : Keeps ahead front w =
    pictures-keep ahead front (waiting pending) t.closed (waiting-keeps ahead front pending h) in
    let all = before-maximal ahead (front ++ g.flights) g.pending t.next (step-before ahead front w t.next keeps) in
    subst (AreMaximal ahead)
    (append_assoc front g.flights (if_any g.pending)
    ∙ ap (λ (fs : List (List PicturePlan)). front ++ fs) (sym (cut-any g.flights g.pending)))
    all

end-maximal : EndsMaximal at_end
end-maximal front p h = end-by-maximal front p.ahead p.pending p.next h

none-before : (ahead : ℕ) (pending : List PicturePlan) (next : Result Between Stop) → Before ahead [] pending next
none-before ahead pending (Ok s) = tt
none-before ahead [] (Err e) = tt
none-before ahead (p ∷ pending) (Err e) = tt

pub so_far_maximal : (p : Plans) (told : List Told) → AreMaximal p.ahead (with_pending (over still p told))
so_far_maximal p told =
    over-maximal still still-maximal p.ahead [] p.pending p.next told (none-before p.ahead p.pending p.next)

pub halted_maximal : (p : Plans) (told : List Told) → AreMaximal p.ahead (with_pending (over halted p told))
halted_maximal p told =
    over-maximal halted halted-maximal p.ahead [] p.pending p.next told (none-before p.ahead p.pending p.next)

pub finished_maximal : (p : Plans) (told : List Told) → AreMaximal p.ahead (with_pending (over at_end p told))
finished_maximal p told =
    over-maximal at_end end-maximal p.ahead [] p.pending p.next told (none-before p.ahead p.pending p.next)
