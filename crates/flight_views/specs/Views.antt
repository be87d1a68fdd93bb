-- What the workers of a flight share is of the flight of a board.
use Rattle.std.specs.Prelude.{ℕ, ◌≡◌, List, length, Some, slice_get}
use Rattle.plan_types.specs.declared.picture_plan.PicturePlan.{PicturePlan}
use Rattle.row_waits.specs.PictureBuild.{IsCommon}
use Rattle.row_waits.specs.PictureBuild.{buffer_of}
use Rattle.spec_reconstruction.specs.Sound.{IsFormat}
use Rattle.flight_names.specs.SpecPictureFilters.{filter_format}
use Rattle.loop_filters.specs.Formats.{IsFormat as IsFilterFormat}
use Rattle.row_waits.specs.FlightFacts.{FlightFacts}
use Rattle.row_waits.specs.FlightFacts.{flight_in}
use Rattle.row_waits.specs.FlightFacts.{IsOfFlight}
use Rattle.row_waits.specs.FlightWaits.{frame_rows}
use Rattle.flight_names.specs.Names.{all_names}
use Rattle.flight_views.specs.declared.flight_views.FlightViews.{FlightViews}
use Rattle.flight_views.specs.declared.picture_formats.PictureFormats.{PictureFormats}

-- formats are those of a picture
pub record IsFormatOf (p : PicturePlan) (formats : PictureFormats) : Type 0 where
  pub common : IsCommon p.sps p.pps formats.units
  pub depths : IsFormat formats.units
  pub filters : formats.filters ≡ filter_format p
  pub filter_range : IsFilterFormat formats.filters

-- those of pictures, in their order
abbrev pub EachHas : List PicturePlan → List PictureFormats → Type 0
EachHas plans formats =
    (k : ℕ) (p : PicturePlan) (f : PictureFormats) → slice_get plans k ≡ Some p → slice_get formats k ≡ Some f
    → IsFormatOf p f

pub record AreFormats (plans : List PicturePlan) (formats : List PictureFormats) : Type 0 where
  pub count : length formats ≡ length plans
  pub each : EachHas plans formats

-- what is shared is of this flight
pub record IsViewOf (facts : FlightFacts) (views : FlightViews) : Type 0 where
  pub flight : IsOfFlight facts views.layout
  pub plans : views.plans.now ≡ (flight_in facts).pictures
  pub bases : buffer_of views.bases.now ≡ buffer_of facts.bases.value
  pub names : views.names ≡ all_names (flight_in facts).pictures (length (flight_in facts).buffer)
  pub frame : views.frame ≡ frame_rows (flight_in facts).pictures
  pub formats : AreFormats (flight_in facts).pictures views.formats.items

-- it is of some flight
pub record IsShared (views : FlightViews) : Type 0 where
  pub facts : FlightFacts
  pub view : IsViewOf facts views
