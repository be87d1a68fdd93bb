-- Where the decoding of a flight stops.
use Rattle.std.specs.Prelude.{◌≡◌, ◌≢◌, ◌<◌, ℕ, [], Some, Ok, Err, slice_get}
use Rattle.hv_base.specs.declared.breach.Breach.{Breach}
use Rattle.header_types.specs.SequenceParameterSets.{size_in_ctbs}
use Rattle.plan_types.specs.declared.picture_plan.PicturePlan.{PicturePlan}
use Rattle.known_picture_laws.specs.SpecPictureTrees.{PictureBroken}
use Rattle.known_picture_laws.specs.SpecDecodedPictures.{picture_decoded}
use Rattle.known_picture_laws.specs.SpecFlights.{PlannedFlight, known_decoded, pictures_before}
use Rattle.known_picture_laws.specs.SpecFlights.{broken_at, unit_number}

-- each picture of a flight has a slice segment
abbrev pub HaveSegments : PlannedFlight → Type 0
HaveSegments f = (k : ℕ) (p : PicturePlan) → slice_get f.pictures k ≡ Some p → p.segments ≢ []

-- sequential decoding of the picture at a place of a flight gives what its known units make
abbrev pub IsDecodedAt : PlannedFlight → ℕ → PicturePlan → Type 0
IsDecodedAt f k p = picture_decoded (pictures_before f k) p ≡ Ok (known_decoded (pictures_before f k) p)

-- the unit of this number of a flight is bad
pub record IsBadUnit (f : PlannedFlight) (u : ℕ) : Type 0 where
  pub picture : ℕ
  pub plan : PicturePlan
  pub address : ℕ
  pub breach : Breach
  pub has : slice_get f.pictures picture ≡ Some plan
  pub inside : address < size_in_ctbs plan.sps
  pub number : u ≡ unit_number f picture address
  pub rule : broken_at plan address ≡ Some breach

-- it is where sequential decoding stops: the pictures before it are decoded, and its picture breaks the rule that it
-- breaks first, at its coding tree unit
pub record StopsDecoding (f : PlannedFlight) (u : ℕ) : Type 0 where
  pub picture : ℕ
  pub plan : PicturePlan
  pub broken : PictureBroken
  pub has : slice_get f.pictures picture ≡ Some plan
  pub number : u ≡ unit_number f picture broken.ctu
  pub rule : broken_at plan broken.ctu ≡ Some broken.breach
  pub stops : picture_decoded (pictures_before f picture) plan ≡ Err broken
  pub before : (k : ℕ) (p : PicturePlan) → k < picture → slice_get f.pictures k ≡ Some p → IsDecodedAt f k p
