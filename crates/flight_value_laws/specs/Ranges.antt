-- Values of a picture that fit the words that have them.
use Rattle.std.specs.Prelude.{◌≡◌, ℕ, ◌<◌, ◌^◌, List, length, All, Some, slice_get}
use Rattle.hv_base.specs.declared.line.Phase.{Phase}
use Rattle.plan_types.specs.declared.picture_plan.PicturePlan.{PicturePlan}
use Rattle.known_picture_laws.specs.PlanLaws.{IsPlan}
use Rattle.known_picture_laws.specs.SpecFlights.{BufferPicture}
use Rattle.known_picture_laws.specs.CabacContexts.{unpacked}
use Rattle.sample_words.specs.declared.carry.Carry.{Carry}
use Rattle.sample_words.specs.declared.sizes.FlightSizes.{FlightSizes}
use Rattle.sample_words.specs.Contents.{PictureValues}
use Rattle.sample_words.specs.Offsets.{IsSao}
use Rattle.sample_words.specs.Values.{IsModes, IsMotion, sample_bits}
use Rattle.known_picture_laws.specs.SpecFlights.{PlannedFlight}
use Rattle.flight_value_laws.specs.Motion.{AreMotionsHeld}

-- the contexts of a slice are so many, and each is one of a state up to 62
pub record AreContexts (contexts : List ℕ) : Type 0 where
  pub count : length contexts ≡ 154
  pub small : All (λ c. c < 126) contexts

-- twenty words of 64 bits that have contexts
pub record AreContextWords (words : List ℕ) : Type 0 where
  pub count : length words ≡ 20
  pub small : All (λ w. w < 2 ^ 64) words
  pub contexts : AreContexts (unpacked words)

-- what is carried on to the next row: contexts, and Qp'Y of the last coding unit, which is a byte
pub record IsCarried (carry : Carry) : Type 0 where
  pub contexts : AreContextWords carry.contexts
  pub last : carry.last < 256

-- each value of a picture has room in its word
pub record FitWords (s : FlightSizes) (values : PictureValues) : Type 0 where
  pub samples : (phase : Phase) (c x y : ℕ) → values.samples phase c x y < 2 ^ sample_bits s
  pub motion : (x y : ℕ) → IsMotion (values.motion x y)
  pub modes : (x y : ℕ) → IsModes (values.modes x y)
  pub offsets : (column row : ℕ) → IsSao (values.offsets column row)
  pub contexts : (row : ℕ) → AreContextWords (values.contexts row)
  pub carried : (row : ℕ) → IsCarried (values.carried row)

-- the motion of a picture of the buffer fits
abbrev pub HasMotionHeld : BufferPicture → Type 0
HasMotionHeld b = AreMotionsHeld b.picture.motions

-- the plans of a flight are in range (`plans_are_in_range` of plan_laws), and so is the motion of the pictures of the
-- buffer before it (`decoded_motion_fits`)
pub record IsInRange (f : PlannedFlight) : Type 0 where
  pub plans : (k : ℕ) (p : PicturePlan) → slice_get f.pictures k ≡ Some p → IsPlan p
  pub buffer : All HasMotionHeld f.buffer
