-- Which pictures are decoded together: up to so many consecutive ones of one sequence parameter set.
use Rattle.std.specs.Prelude.{ℕ, Bool, true, List, [], ◌∷◌, ◌++◌, length, Option, Some, None, Result, Ok, Err, nat_le}
use Rattle.std.specs.Prelude.{if◌then◌else◌}
use Rattle.hv_base.specs.declared.refusal.Stop.{Stop}
use Rattle.header_types.specs.declared.sps.SpsFields.{SpsFields}
use Rattle.plan_types.specs.declared.picture_plan.PicturePlan.{PicturePlan}
use Rattle.header_types.specs.Content.{same_content}

-- the flights that ended, and the pictures that wait for theirs to end
pub record Gathered : Type 0 where
  pub flights : List (List PicturePlan)
  pub pending : List PicturePlan

abbrev pub some_flight : Option (List PicturePlan) → List (List PicturePlan)
some_flight None = []
some_flight (Some f) = f ∷ []

-- whether a picture of this sequence parameter set goes on with these pictures, which are of one
abbrev pub goes_on_with : List PicturePlan → SpsFields → Bool
goes_on_with [] sps = true
goes_on_with (p ∷ pictures) sps = same_content p.sps sps

abbrev pub ended : Gathered → List PicturePlan → Gathered
ended g [] = g
ended g (p ∷ pictures) = record { flights = g.flights ++ (p ∷ pictures) ∷ []; pending = [] }

-- what is pending ends a flight, if anything is
abbrev pub cut : Gathered → Gathered
cut g = ended g g.pending

-- a flight of `ahead` pictures ends
abbrev pub cut_full : ℕ → Gathered → Gathered
cut_full ahead g = if nat_le ahead (length g.pending) then cut g else g

abbrev pub joined_by : Gathered → PicturePlan → Gathered
joined_by g p = record { flights = g.flights; pending = g.pending ++ p ∷ [] }

-- a picture joins the pending ones, which end where it is of another sequence parameter set
unfoldable pub joined_with : Gathered → PicturePlan → Gathered
joined_with g p = if goes_on_with g.pending p.sps then joined_by g p else joined_by (cut g) p

unfoldable pub with_picture : ℕ → Gathered → PicturePlan → Gathered
with_picture ahead g p = cut_full ahead (joined_with g p)

abbrev pub with_pictures : ℕ → Gathered → List PicturePlan → Gathered
with_pictures ahead g [] = g
with_pictures ahead g (p ∷ pictures) = with_pictures ahead (with_picture ahead g p) pictures

-- where the stream stops, what is pending ends too
abbrev pub cut_at_stop : {X : Type 0} → Result X Stop → Gathered → Gathered
cut_at_stop (Ok s) g = g
cut_at_stop (Err e) g = cut g

abbrev pub waiting : List PicturePlan → Gathered
waiting pending = record { flights = []; pending = pending }

-- the pictures of flights, in decoding order
abbrev pub pictures_of : List (List PicturePlan) → List PicturePlan
pictures_of [] = []
pictures_of (f ∷ flights) = f ++ pictures_of flights
