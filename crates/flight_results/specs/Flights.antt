-- A flight that is decoded, beside the definitions of flights.
use Rattle.std.specs.Prelude.{◌≡◌, ◌≤◌, ℕ, List, length, Option, Some, None, Ok, Err, slice_get}
use Rattle.hv_base.specs.declared.refusal.Stop.{Stop}
use Rattle.plan_types.specs.declared.picture_plan.PicturePlan.{PicturePlan}
use Rattle.picture_buffer.specs.Pictures.{HeldPicture}
use Rattle.flight_facts.specs.PictureBuildPictures.{decoded_of}
use Rattle.spec_picture_trees.specs.Picture.{PictureBroken}
use Rattle.row_trees.specs.SpecDecodedPictures.{picture_decoded}
use Rattle.row_trees.specs.SpecDecoder.{told}
use Rattle.row_trees.specs.SpecFlights.{PlannedFlight, pictures_before}
use Rattle.row_trees.specs.SpecFlights.{broken_at, unit_number}

-- what stops a flight at this place: nothing, behind its last picture, or what the data of the picture there break
abbrev pub StopsAt : PlannedFlight → ℕ → Option Stop → Type 0
StopsAt f k None = k ≡ length f.pictures
StopsAt f k (Some s) = (p : PicturePlan) × (broken : PictureBroken) × (slice_get f.pictures k ≡ Some p)
    × (picture_decoded (pictures_before f k) p ≡ Err broken) × (s ≡ told broken)

-- of a flight these pictures were decoded, the first of it, and this stopped it: each is the picture of sequential
-- decoding at its place
pub record DecodesFlight (f : PlannedFlight) (pictures : List HeldPicture) (fault : Option Stop) : Type 0 where
  pub few : length pictures ≤ length f.pictures
  pub decoded : (k : ℕ) (p : PicturePlan) (picture : HeldPicture) → slice_get f.pictures k ≡ Some p
      → slice_get pictures k ≡ Some picture → picture_decoded (pictures_before f k) p ≡ Ok (decoded_of picture)
  pub stops : StopsAt f (length pictures) fault

-- the fault is that of this unit, a bad one: the pictures before its picture were decoded, and the rule that it breaks
-- is told with its NAL unit and its address
pub record TellsUnit (f : PlannedFlight) (pictures : List HeldPicture) (fault : Option Stop) (u : ℕ) : Type 0 where
  pub plan : PicturePlan
  pub broken : PictureBroken
  pub has : slice_get f.pictures (length pictures) ≡ Some plan
  pub number : u ≡ unit_number f (length pictures) broken.ctu
  pub rule : broken_at plan broken.ctu ≡ Some broken.breach
  pub tells : fault ≡ Some (told broken)

-- by the least bad unit of a flight, if it has a bad one: the fault is that of the unit, or there is none and all
-- pictures were decoded
abbrev pub TellsLeast : PlannedFlight → List HeldPicture → Option Stop → Option ℕ → Type 0
TellsLeast f pictures fault None = (fault ≡ None) × (length pictures ≡ length f.pictures)
TellsLeast f pictures fault (Some u) = TellsUnit f pictures fault u
