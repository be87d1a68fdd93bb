-- Decoded pictures of a flight that are taken out of a board.
use Rattle.std.specs.Prelude.{ℕ, ◌≡◌, ◌+◌, ◌-◌, ◌/◌, ◌%◌, ◌<◌, ◌≤◌, true, List, Some, length, slice_get}
use Rattle.hv_base.specs.declared.line.Phase.TheVariants.{S}
use Rattle.plan_types.specs.declared.picture_plan.PicturePlan.{PicturePlan}
use Rattle.picture_buffer.specs.Motion.{FieldPlaces, HasPlaces, motions_of}
use Rattle.picture_buffer.specs.Planes.{HasSides, PictureSamples, samples_of}
use Rattle.taken_pictures.specs.PictureBuild.{decoded_of}
use Rattle.board_core.specs.Places.{line_of}
use Rattle.sample_words.specs.declared.sizes.FlightSizes.{FlightSizes}
use Rattle.sample_words.specs.Sizes.{rows}
use Rattle.taken_pictures.specs.SpecFlights.{PlannedFlight, known_decoded, pictures_before}
use Rattle.progress_words.specs.declared.pass.Pass.{Pass}
use Rattle.progress_words.specs.Core.{fault_in}
use Rattle.progress_words.specs.Faults.{NamesBad, unit_in}
use Rattle.progress_words.specs.Passes.{IsPassOf, view}
use Rattle.progress_words.specs.Places.{Place}
use Rattle.progress_words.specs.Views.{HasEnded}
use Rattle.flight_lines.specs.Numbers.{unit_number}
use Rattle.flight_lines.specs.Shown.{least_in}
use Rattle.taken_pictures.specs.FlightFacts.{FlightFacts}
use Rattle.taken_pictures.specs.FlightFacts.{flight_meaning, sizes_in}
use Rattle.taken_pictures.specs.FlightFacts.{flight_in}
use Rattle.taken_pictures.specs.FlightFacts.{IsOfFlight}
use Rattle.taken_pictures.specs.FlightFacts.{StopsByRule}
use Rattle.flight_workers.specs.FlightWaits.{AreAllKnown}
use Rattle.taken_pictures.specs.Pictures.{HasSeenMore, IsPictureSeen, held_picture}

-- planes and a motion field, into which a picture is taken
abbrev pub Part : Type 0
Part = PictureSamples × FieldPlaces

-- they have the sizes of a plan's picture
pub record IsSized (p : PicturePlan) (part : Part) : Type 0 where
  pub sides : HasSides part.0 p.sps.format.pic_width_in_luma_samples p.sps.format.pic_height_in_luma_samples
  pub places : HasPlaces part.1 (p.sps.format.pic_width_in_luma_samples / 4)
      (p.sps.format.pic_height_in_luma_samples / 4)

abbrev pub AreSized : List PicturePlan → List Part → Type 0
AreSized plans parts =
    (k : ℕ) (p : PicturePlan) (part : Part) → slice_get plans k ≡ Some p → slice_get parts k ≡ Some part
    → IsSized p part

-- they hold the decoded picture that the known units of the picture at a place of a flight make
abbrev pub IsDecoded : PlannedFlight → ℕ → PicturePlan → Part → Type 0
IsDecoded f picture p part =
    decoded_of (held_picture p.sps.format part.0 part.1) ≡ known_decoded (pictures_before f picture) p

-- planes of its size hold its samples, and a field of its size its motion
pub record HoldsSamples (f : PlannedFlight) (picture : ℕ) (p : PicturePlan) (planes : PictureSamples) : Type 0 where
  pub sides : HasSides planes p.sps.format.pic_width_in_luma_samples p.sps.format.pic_height_in_luma_samples
  pub samples : (c x y : ℕ)
      → samples_of planes c x y ≡ (known_decoded (pictures_before f picture) p).samples c x y

pub record HoldsMotion (f : PlannedFlight) (picture : ℕ) (p : PicturePlan) (field : FieldPlaces) : Type 0 where
  pub places : HasPlaces field (p.sps.format.pic_width_in_luma_samples / 4)
      (p.sps.format.pic_height_in_luma_samples / 4)
  pub motion : (x y : ℕ) → motions_of field x y ≡ (known_decoded (pictures_before f picture) p).motions x y

-- of parts for the pictures from one on the first so many do
abbrev pub AreDecoded : PlannedFlight → ℕ → List PicturePlan → List Part → ℕ → Type 0
AreDecoded f first plans parts count =
    (k : ℕ) (p : PicturePlan) (part : Part) → k < count → slice_get plans k ≡ Some p → slice_get parts k ≡ Some part
    → IsDecoded f (first + k) p part

-- plans of the pictures of a flight from one on, and as many parts of their sizes
pub record AreParts (f : PlannedFlight) (first : ℕ) (plans : List PicturePlan) (parts : List Part) : Type 0 where
  pub count : length plans ≡ length parts
  pub planned : (k : ℕ) (p : PicturePlan) → slice_get plans k ≡ Some p → slice_get f.pictures (first + k) ≡ Some p
  pub sized : AreSized plans parts

-- a unit of the flight is bad that is of a picture or before it: a fault word names it
pub record IsBroken (f : PlannedFlight) (picture : ℕ) : Type 0 where
  pub word : ℕ
  pub bad : NamesBad (flight_meaning f) word
  pub before : unit_in word < unit_number (sizes_in f.pictures) (line_of S picture (rows (sizes_in f.pictures) - 1)) 0

-- the first so many pictures were taken: all of them, or a unit is bad that is of the next one or before it
pub record AreTaken (f : PlannedFlight) (first : ℕ) (plans : List PicturePlan) (parts taken : List Part)
    (count : ℕ) : Type 0 where
  pub as_many : length taken ≡ length parts
  pub sized : AreSized plans taken
  pub few : count ≤ length parts
  pub decoded : AreDecoded f first plans taken count
  pub stopped : count < length parts → IsBroken f (first + count)

-- by the words of a closed board decoding stops at the unit of the fault word, in a picture or before it
pub record StopsInside (f : PlannedFlight) (words : List ℕ) (picture : ℕ) : Type 0 where
  pub unit : ℕ
  pub least : least_in (fault_in (flight_meaning f) words) ≡ Some unit
  pub rule : StopsByRule f unit (fault_in (flight_meaning f) words % 32)
  pub inside : rule.stops.picture ≤ picture

-- a pass may look at the lines of a flight
pub record MayLook (b : Place FlightFacts) (s : FlightSizes) (p : Pass FlightFacts) : Type 0 where
  pub flight : IsOfFlight b.flight s
  pub own : IsPassOf b p
  pub known : AreAllKnown b.flight (view p)

-- it has: it holds what it held, and has seen no less of each line
pub record HasLookedOn (b : Place FlightFacts) (p q : Pass FlightFacts) : Type 0 where
  pub own : IsPassOf b q
  pub known : AreAllKnown b.flight (view q)
  pub kept : HasSeenMore (view p) (view q)

-- it has seen all that stands in the picture at a place of a flight, which has this plan
pub record MayRead (b : Place FlightFacts) (s : FlightSizes) (k : ℕ) (plan : PicturePlan) (p : Pass FlightFacts)
    : Type 0 where
  pub look : MayLook b s p
  pub picture : slice_get (flight_in b.flight).pictures k ≡ Some plan
  pub seen : IsPictureSeen s (view p) k

-- a pass that has come back from the work on a flight, from which so many may be split off
pub record MayTake (b : Place FlightFacts) (s : FlightSizes) (p : Pass FlightFacts) (workers : ℕ) : Type 0 where
  pub flight : IsOfFlight b.flight s
  pub own : IsPassOf b p
  pub known : AreAllKnown b.flight (view p)
  pub ended : HasEnded (flight_meaning (flight_in b.flight)) (view p)
  pub none : (view p).none ≡ true
  pub opens : (view p).opens ≡ true
  pub some : 1 ≤ workers
  pub few : (view p).splits + workers ≤ 256
