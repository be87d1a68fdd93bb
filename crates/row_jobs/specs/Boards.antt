-- A flight that is worked off on a board.
use Rattle.std.specs.Prelude.{◌≡◌, ◌≤◌, ℕ, Bool, true, List, Option, length, Some, slice_get}
use Rattle.std.specs.List.{list_any}
use Rattle.hv_base.specs.declared.refusal.Stop.{Stop}
use Rattle.plan_types.specs.declared.picture_plan.PicturePlan.{PicturePlan}
use Rattle.picture_buffer.specs.Pictures.{HeldPicture}
use Rattle.sample_words.specs.declared.sizes.FlightSizes.{FlightSizes}
use Rattle.progress_words.specs.declared.pass.Pass.{Pass}
use Rattle.progress_words.specs.Core.{fault_in}
use Rattle.progress_words.specs.Passes.{IsPassOf, view}
use Rattle.progress_words.specs.Places.{Place}
use Rattle.progress_words.specs.Views.{HasEnded, opener}
use Rattle.row_workers.specs.SpecFlights.{PlannedFlight}
use Rattle.flight_ranges.specs.FlightUnitLaws.{IsPlanned}
use Rattle.flight_ranges.specs.FlightValueLaws.{IsInRange}
use Rattle.flight_ranges.specs.PictureBuild.{buffer_of}
use Rattle.flight_ranges.specs.FlightFacts.{FlightFacts}
use Rattle.flight_ranges.specs.FlightFacts.{flight_meaning}
use Rattle.flight_ranges.specs.FlightFacts.{flight_of}
use Rattle.flight_ranges.specs.FlightFacts.{flight_in}
use Rattle.flight_ranges.specs.FlightFacts.{IsOfFlight}
use Rattle.flight_ranges.specs.FlightFacts.{HoldsPictures}
use Rattle.flight_results.specs.Stopped.{StopsFlight, TellsStop}
use Rattle.row_workers.specs.FlightViews.{FlightViews}
use Rattle.row_workers.specs.FlightViews.{IsViewOf}
use Rattle.row_workers.specs.declared.row_worker.RowWorker.{RowWorker}
use Rattle.row_workers.specs.Workers.{IsReadyIn}
use Rattle.taken_flights.specs.TakenPictures.{held_picture}
use Rattle.taken_flights.specs.Taken.{AreDecoded, AreSized, Part}

-- whether a picture has a substream for each row of coding tree blocks (7.4.3.3.1, entropy_coding_sync_enabled_flag)
abbrev pub has_row_substreams : PicturePlan → Bool
has_row_substreams p = p.pps.prediction.entropy_coding_sync_enabled_flag

-- the flight of these pictures behind these bases goes on a board, with so many workers: there are several, rows of
-- some picture can be read side by side, and the flight is planned and in range, as each flight of a stream is
pub record GoesOnBoard (plans : List PicturePlan) (bases : List HeldPicture) (workers : ℕ) : Type 0 where
  pub several : 2 ≤ workers
  pub rows : list_any has_row_substreams plans ≡ true
  pub few_bases : length bases ≤ 65536
  pub planned : IsPlanned (flight_of plans (buffer_of bases))
  pub ranged : IsInRange (flight_of plans (buffer_of bases))

-- a worker of a flight that may begin, whatever is counted
abbrev pub MayBegin : FlightViews → RowWorker → Type 0
MayBegin views worker = (facts : FlightFacts) (seen : ℕ → ℕ) → IsViewOf facts views → IsReadyIn worker facts seen

-- the pass with which a board was opened
pub record IsOpener (b : Place FlightFacts) (s : FlightSizes) (p : Pass FlightFacts) : Type 0 where
  pub flight : IsOfFlight b.flight s
  pub own : IsPassOf b p
  pub opens : view p ≡ opener b.flight

-- all that was split off it came back, and no line is left
pub record MayClose (b : Place FlightFacts) (p : Pass FlightFacts) : Type 0 where
  pub own : IsPassOf b p
  pub opens : (view p).opens ≡ true
  pub joins : (view p).joins ≡ (view p).splits
  pub none : (view p).none ≡ true
  pub ended : HasEnded (flight_meaning (flight_in b.flight)) (view p)

-- a word is the fault word of a closed board of a flight
pub record IsFaultWord (f : PlannedFlight) (word : ℕ) : Type 0 where
  pub words : List ℕ
  pub holds : HoldsPictures f words
  pub is : word ≡ fault_in (flight_meaning f) words

-- by the fault word of its board, of a flight that was worked off: it tells where decoding stops, and the parts for the
-- pictures before that hold them
pub record IsWorkedOff (f : PlannedFlight) (plans : List PicturePlan) (parts taken : List Part) (word : ℕ)
    : Type 0 where
  pub as_many : length taken ≡ length parts
  pub sized : AreSized plans taken
  pub tells : TellsStop f word
  pub held : (count : ℕ) (fault : Option Stop) → StopsFlight f count fault → AreDecoded f 0 plans taken count

-- pictures of the first so many parts, by their plans
pub record ArePictures (plans : List PicturePlan) (parts : List Part) (count : ℕ) (pictures : List HeldPicture)
    : Type 0 where
  pub as_many : length pictures ≡ count
  pub each : (k : ℕ) (p : PicturePlan) (part : Part) (picture : HeldPicture) → slice_get plans k ≡ Some p
      → slice_get parts k ≡ Some part → slice_get pictures k ≡ Some picture
      → picture ≡ held_picture p.sps.format part.0 part.1
