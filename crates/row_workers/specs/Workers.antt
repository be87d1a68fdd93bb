-- What holds of a worker of a flight between lines.
use Rattle.std.specs.Prelude.{ℕ, ◌≡◌, ◌≤◌, Some, slice_get}
use Rattle.plan_types.specs.declared.picture_plan.PicturePlan.{PicturePlan}
use Rattle.filtered_rows.specs.SpecPictureFilters.{filter_format}
use Rattle.progress_words.specs.declared.view.View.{View}
use Rattle.progress_words.specs.Views.{seen_of}
use Rattle.filtered_rows.specs.FlightFacts.{FlightFacts}
use Rattle.filtered_rows.specs.FlightFacts.{flight_in}
use Rattle.filtered_rows.specs.Memory.{HasRoomFor}
use Rattle.built_rows.specs.RowWaits.{PictureView}
use Rattle.built_rows.specs.RowWaits.{IsPictureOf}
use Rattle.built_rows.specs.Stages.{IsReadyFor}
use Rattle.flight_views.specs.Views.{IsViewOf}
use Rattle.row_workers.specs.declared.row_worker.RowWorker.{RowWorker}

-- what it shares is of the flight; it may build rows of each picture, by a pass that has seen no fewer units of each
-- line counted than so many, and has room to filter them
pub record IsReadyIn (worker : RowWorker) (facts : FlightFacts) (seen : ℕ → ℕ) : Type 0 where
  pub views : IsViewOf facts worker.views.now
  pub builder : (picture : PictureView) (v : View FlightFacts) → IsPictureOf facts picture
      → ((l : ℕ) → seen l ≤ seen_of v l) → IsReadyFor picture v worker.builder
  pub memory : (k : ℕ) (p : PicturePlan) → slice_get (flight_in facts).pictures k ≡ Some p
      → HasRoomFor (filter_format p) worker.memory
