-- No picture is lost or doubled on its way into flights.
use Rattle.std.proofs.Common.{◌≡◌, ℕ, Bool, true, false, List, [], ◌∷◌, ◌++◌, length, nat_le, if◌then◌else◌, Result}
use Rattle.std.proofs.Common.{Ok}
use Rattle.std.proofs.Common.{Err, refl, sym, ap, ◌∙◌, append_assoc, append-nil}
use Rattle.hv_base.specs.declared.refusal.Stop.{Stop}
use Rattle.plan_types.specs.declared.picture_plan.PicturePlan.{PicturePlan}
use Rattle.picture_plan.specs.Flights.{Gathered, goes_on_with, ended, cut, cut_full, joined_by, joined_with}
use Rattle.picture_plan.specs.Flights.{with_picture, with_pictures, cut_at_stop, waiting, pictures_of}

pub pictures_of-append : (xs ys : List (List PicturePlan)) → pictures_of (xs ++ ys) ≡ pictures_of xs ++ pictures_of ys
pictures_of-append [] ys = refl
pictures_of-append (x ∷ xs) ys =
    ap (λ (ps : List PicturePlan). x ++ ps) (pictures_of-append xs ys)
    ∙ sym (append_assoc x (pictures_of xs) (pictures_of ys))

pub ended-all : (flights : List (List PicturePlan)) (pending : List PicturePlan)
    → pictures_of (ended (record { flights = flights; pending = pending }) pending).flights
    ++ (ended (record { flights = flights; pending = pending }) pending).pending
    ≡ pictures_of flights ++ pending
ended-all flights [] = refl
ended-all flights (p ∷ pictures) =
    append-nil (pictures_of (flights ++ (p ∷ pictures) ∷ []))
    ∙ pictures_of-append flights ((p ∷ pictures) ∷ [])
    ∙ ap (λ (ps : List PicturePlan). pictures_of flights ++ ps) (append-nil (p ∷ pictures))

-- what is pending may end a flight
pub cut-all : (g : Gathered) → pictures_of (cut g).flights ++ (cut g).pending ≡ pictures_of g.flights ++ g.pending
cut-all g = ended-all g.flights g.pending

if-all : (b : Bool) (g h : Gathered) (ps : List PicturePlan) → pictures_of g.flights ++ g.pending ≡ ps
    → pictures_of h.flights ++ h.pending ≡ ps
    → pictures_of (if b then g else h).flights ++ (if b then g else h).pending ≡ ps
if-all true g h ps a b = a
if-all false g h ps a b = b

cut_full-all : (ahead : ℕ) (g : Gathered)
    → pictures_of (cut_full ahead g).flights ++ (cut_full ahead g).pending ≡ pictures_of g.flights ++ g.pending
cut_full-all ahead g = if-all (nat_le ahead (length g.pending)) (cut g) g _ (cut-all g) refl

joined_by-all : (g : Gathered) (p : PicturePlan)
    → pictures_of (joined_by g p).flights ++ (joined_by g p).pending ≡ (pictures_of g.flights ++ g.pending) ++ p ∷ []
joined_by-all g p = sym (append_assoc (pictures_of g.flights) g.pending (p ∷ []))

joined_with-all : (g : Gathered) (p : PicturePlan)
    → pictures_of (joined_with g p).flights ++ (joined_with g p).pending
    ≡ (pictures_of g.flights ++ g.pending) ++ p ∷ []
unfolding joined_with
joined_with-all g p =
    if-all (goes_on_with g.pending p.sps) (joined_by g p) (joined_by (cut g) p) _ (joined_by-all g p)
    (joined_by-all (cut g) p ∙ ap (λ (ps : List PicturePlan). ps ++ p ∷ []) (cut-all g))

-- a picture comes behind the others
pub with_picture-all : (ahead : ℕ) (g : Gathered) (p : PicturePlan)
    → pictures_of (with_picture ahead g p).flights ++ (with_picture ahead g p).pending
    ≡ (pictures_of g.flights ++ g.pending) ++ p ∷ []
unfolding with_picture
with_picture-all ahead g p = cut_full-all ahead (joined_with g p) ∙ joined_with-all g p

-- pictures come behind the others
pub with_pictures-all : (ahead : ℕ) (g : Gathered) (closed : List PicturePlan)
    → pictures_of (with_pictures ahead g closed).flights ++ (with_pictures ahead g closed).pending
    ≡ (pictures_of g.flights ++ g.pending) ++ closed
with_pictures-all ahead g [] = sym (append-nil (pictures_of g.flights ++ g.pending))
with_pictures-all ahead g (p ∷ closed) =
    with_pictures-all ahead (with_picture ahead g p) closed
    ∙ ap (λ (ps : List PicturePlan). ps ++ closed) (with_picture-all ahead g p)
    ∙ append_assoc (pictures_of g.flights ++ g.pending) (p ∷ []) closed

-- where the stream stops, all of them stay too
pub cut_at_stop-all : {X : Type 0} → (next : Result X Stop) (g : Gathered)
    → pictures_of (cut_at_stop next g).flights ++ (cut_at_stop next g).pending ≡ pictures_of g.flights ++ g.pending
cut_at_stop-all (Ok s) g = refl
cut_at_stop-all (Err e) g = cut-all g

-- a step's flights and what then waits are what waited and the pictures that the step closed
pub step-all : {X : Type 0} → (ahead : ℕ) (pending closed : List PicturePlan) (next : Result X Stop)
    → pictures_of (cut_at_stop next (with_pictures ahead (waiting pending) closed)).flights
    ++ (cut_at_stop next (with_pictures ahead (waiting pending) closed)).pending ≡ pending ++ closed
step-all ahead pending closed next =
    cut_at_stop-all next (with_pictures ahead (waiting pending) closed)
    ∙ with_pictures-all ahead (waiting pending) closed

ended-none : (g : Gathered) (pending : List PicturePlan) → g.pending ≡ pending → (ended g pending).pending ≡ []
ended-none g [] e = e
ended-none g (p ∷ pictures) e = refl

-- nothing waits behind a cut
pub cut-none : (g : Gathered) → (cut g).pending ≡ []
cut-none g = ended-none g g.pending refl
