-- Each flight has one to so many pictures of one sequence parameter set.
use Rattle.std.proofs.Common.{◌≡◌, ℕ, ◌≤◌, ◌<◌, Bool, true, false, List, [], ◌∷◌, ◌++◌, length, All, nat_le}
use Rattle.std.proofs.Common.{if◌then◌else◌, Result, Ok, Err, refl, arith, length-append}
use Rattle.std.proofs.lemmas.Bool.{leb-false}
use Rattle.std.proofs.lemmas.List.Elements.{All-nil, All-cons, All-append}
use Rattle.hv_base.specs.declared.refusal.Stop.{Stop}
use Rattle.plan_types.specs.declared.picture_plan.PicturePlan.{PicturePlan}
use Rattle.header_types.specs.Content.{same_content}
use Rattle.spec_nal_units.specs.Judged.{Told}
use Rattle.plan_types.specs.declared.between.Between.{Between}
use Rattle.spec_picture_plan.specs.Pictures.{beginning}
use Rattle.spec_picture_plan.specs.Steps.{Stepped, close, step}
use Rattle.picture_plan.specs.Flights.{Gathered, goes_on_with, ended, cut, joined_by, joined_with, with_picture}
use Rattle.picture_plan.specs.Flights.{waiting, with_pictures, cut_at_stop}
use Rattle.picture_plan.specs.Plans.{Given, behind_unit, at_end}
use Rattle.picture_plan.proofs.Pictures.{cut-none}
use Rattle.flight_laws.specs.Runs.{new_plans, run, IsFlight, AreFlights}

-- pictures that wait for their flight's end: fewer than `ahead`, of one sequence parameter set
unfoldable Waits : ℕ → List PicturePlan → Type 0
Waits ahead [] = Unit {0}
Waits ahead (p ∷ pictures) =
    (length (p ∷ pictures) < ahead) × All (λ (q : PicturePlan). same_content p.sps q.sps ≡ true) pictures

record IsGathered (ahead : ℕ) (g : Gathered) : Type 0 where
  flights : AreFlights ahead g.flights
  pending : Waits ahead g.pending

ended-gathered : (ahead : ℕ) (flights : List (List PicturePlan)) (pending : List PicturePlan) → AreFlights ahead flights
    → Waits ahead pending
    → IsGathered ahead (ended (record { flights = flights; pending = pending }) pending)
unfolding Waits
ended-gathered ahead flights [] f w = record { flights = f; pending = tt }
ended-gathered ahead flights (p ∷ pictures) f w =
    let few : length (p ∷ pictures) < ahead = w.0 in
    let last : IsFlight ahead (p ∷ pictures) = (omega arith, w.1) in
    record {
      flights =
          All-append (IsFlight ahead) flights ((p ∷ pictures) ∷ []) f
          (All-cons (IsFlight ahead) (p ∷ pictures) [] last (All-nil (IsFlight ahead)));
      pending = tt;
    }

cut-gathered : (ahead : ℕ) (g : Gathered) → IsGathered ahead g → IsGathered ahead (cut g)
cut-gathered ahead g i = ended-gathered ahead g.flights g.pending i.flights i.pending

-- a flight that isn't full waits
flight-waits : (ahead : ℕ) (pending : List PicturePlan) → IsFlight ahead pending → length pending < ahead
    → Waits ahead pending
unfolding Waits
flight-waits ahead [] f few = tt
flight-waits ahead (p ∷ pictures) f few = (few, f.1)

ended-full : (ahead : ℕ) (flights : List (List PicturePlan)) (pending : List PicturePlan) → AreFlights ahead flights
    → IsFlight ahead pending
    → IsGathered ahead (ended (record { flights = flights; pending = pending }) pending)
unfolding Waits
ended-full ahead flights [] f i = absurd i
ended-full ahead flights (p ∷ pictures) f i = record {
  flights =
      All-append (IsFlight ahead) flights ((p ∷ pictures) ∷ []) f
      (All-cons (IsFlight ahead) (p ∷ pictures) [] i (All-nil (IsFlight ahead)));
  pending = tt;
}

full-by : (ahead : ℕ) (flights : List (List PicturePlan)) (pending : List PicturePlan) (b : Bool)
    → nat_le ahead (length pending) ≡ b
    → AreFlights ahead flights → IsFlight ahead pending
    → IsGathered ahead
    (if b then ended (record { flights = flights; pending = pending }) pending
    else record { flights = flights; pending = pending })
full-by ahead flights pending true e f i = ended-full ahead flights pending f i
full-by ahead flights pending false e f i =
    record { flights = f; pending = flight-waits ahead pending i (leb-false ahead (length pending) e) }

-- a picture that goes on with those that wait
joined-flight : (ahead : ℕ) (pending : List PicturePlan) (q : PicturePlan) → 1 ≤ ahead → Waits ahead pending
    → goes_on_with pending q.sps ≡ true
    → IsFlight ahead (pending ++ q ∷ [])
unfolding Waits
joined-flight ahead [] q some w e = (some, All-nil (λ (r : PicturePlan). same_content q.sps r.sps ≡ true))
joined-flight ahead (p ∷ pictures) q some w e =
    let few : length (p ∷ pictures) < ahead = w.0 in
    let P = λ (r : PicturePlan). same_content p.sps r.sps ≡ true in (
      omega (arith, length-append (p ∷ pictures) (q ∷ [])),
      All-append P pictures (q ∷ []) w.1 (All-cons P q [] e (All-nil P)),
    )

joined-by : (ahead : ℕ) (g : Gathered) (q : PicturePlan) (b : Bool) → goes_on_with g.pending q.sps ≡ b → 1 ≤ ahead
    → IsGathered ahead g
    → (AreFlights ahead (if b then joined_by g q else joined_by (cut g) q).flights)
    × IsFlight ahead (if b then joined_by g q else joined_by (cut g) q).pending
unfolding Waits
joined-by ahead g q true e some i = (i.flights, joined-flight ahead g.pending q some i.pending e)
joined-by ahead g q false e some i =
    let c = cut-gathered ahead g i in
    (c.flights, rw (cut-none g) (joined-flight ahead [] q some tt refl))

with_picture-gathered : (ahead : ℕ) (g : Gathered) (q : PicturePlan) → 1 ≤ ahead → IsGathered ahead g
    → IsGathered ahead (with_picture ahead g q)
unfolding with_picture joined_with
with_picture-gathered ahead g q some i =
    let j = joined-by ahead g q (goes_on_with g.pending q.sps) refl some i in
    let h : Gathered = joined_with g q in
    full-by ahead h.flights h.pending (nat_le ahead (length h.pending)) refl j.0 j.1

with_pictures-gathered : (ahead : ℕ) (g : Gathered) (closed : List PicturePlan) → 1 ≤ ahead → IsGathered ahead g
    → IsGathered ahead (with_pictures ahead g closed)
with_pictures-gathered ahead g [] some i = i
with_pictures-gathered ahead g (q ∷ closed) some i =
    with_pictures-gathered ahead (with_picture ahead g q) closed some (with_picture-gathered ahead g q some i)

cut_at_stop-gathered : (ahead : ℕ) (next : Result Between Stop) (g : Gathered) → IsGathered ahead g
    → IsGathered ahead (cut_at_stop next g)
cut_at_stop-gathered ahead (Ok s) g i = i
cut_at_stop-gathered ahead (Err e) g i = cut-gathered ahead g i

waiting-gathered : (ahead : ℕ) (pending : List PicturePlan) → Waits ahead pending → IsGathered ahead (waiting pending)
waiting-gathered ahead pending w = record { flights = All-nil (IsFlight ahead); pending = w }

step-gathered : (ahead : ℕ) (pending closed : List PicturePlan) (next : Result Between Stop) → 1 ≤ ahead
    → Waits ahead pending
    → IsGathered ahead (cut_at_stop next (with_pictures ahead (waiting pending) closed))
step-gathered ahead pending closed next some w =
    cut_at_stop-gathered ahead next _
    (with_pictures-gathered ahead (waiting pending) closed some (waiting-gathered ahead pending w))

stopped-flights : (ahead : ℕ) (pending : List PicturePlan) (e : Stop) (ts : List Told) → Waits ahead pending
    → AreFlights ahead (run (record { ahead = ahead; pending = pending; next = Err e }) ts).flights
unfolding at_end behind_unit
stopped-flights ahead pending e [] w = (cut-gathered ahead (waiting pending) (waiting-gathered ahead pending w)).flights
stopped-flights ahead pending e (t ∷ ts) w = stopped-flights ahead pending e ts w

next-flights : (ahead : ℕ) (pending : List PicturePlan) (next : Result Between Stop) (ts : List Told)
    → Waits ahead pending
    → ((s : Between) → AreFlights ahead (run (record { ahead = ahead; pending = pending; next = Ok s }) ts).flights)
    → AreFlights ahead (run (record { ahead = ahead; pending = pending; next = next }) ts).flights
next-flights ahead pending (Ok s) ts w h = h s
next-flights ahead pending (Err e) ts w h = stopped-flights ahead pending e ts w

all-flights : (ahead : ℕ) (pending : List PicturePlan) (s : Between) (ts : List Told) → 1 ≤ ahead → Waits ahead pending
    → AreFlights ahead (run (record { ahead = ahead; pending = pending; next = Ok s }) ts).flights
unfolding at_end behind_unit
all-flights ahead pending s [] some w =
    let t : Stepped = close s in
    (cut-gathered ahead _ (step-gathered ahead pending t.closed t.next some w)).flights
all-flights ahead pending s (t ∷ ts) some w =
    let u : Stepped = step s t in
    let g : Gathered = cut_at_stop u.next (with_pictures ahead (waiting pending) u.closed) in
    let i : IsGathered ahead g = step-gathered ahead pending u.closed u.next some w in
    let r : Given = run (record { ahead = ahead; pending = g.pending; next = u.next }) ts in
    All-append (IsFlight ahead) g.flights r.flights i.flights
    (next-flights ahead g.pending u.next ts i.pending (λ n. all-flights ahead g.pending n ts some i.pending))

pub are_flights : (ahead : ℕ) (told : List Told) → 1 ≤ ahead → AreFlights ahead (run (new_plans ahead) told).flights
unfolding Waits
are_flights ahead told some = all-flights ahead [] beginning told some tt
