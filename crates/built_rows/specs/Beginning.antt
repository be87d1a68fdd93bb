-- What holds of a row's builder, and of the pass that it works with, before the first coding tree unit of a row.
use Rattle.std.specs.Prelude.{◌≡◌, ◌<◌}
use Rattle.board_core.specs.Needs.{read_needs}
use Rattle.spec_flights.specs.Rows.{flight_rows}
use Rattle.progress_words.specs.declared.pass.Pass.{Pass}
use Rattle.progress_words.specs.Passes.{IsPassOf, view}
use Rattle.progress_words.specs.Places.{Place}
use Rattle.line_words.specs.Places.{UnitAt}
use Rattle.border_words.specs.FlightFacts.{FlightFacts}
use Rattle.border_words.specs.FlightFacts.{flight_in}
use Rattle.done_units.specs.FlightWaits.{AreSeen}
use Rattle.row_waits.specs.declared.picture_view.PictureView.{PictureView}
use Rattle.row_waits.specs.Pictures.{IsPictureOf}
use Rattle.built_rows.specs.declared.row_builder.RowBuilder.{RowBuilder}
use Rattle.built_rows.specs.Stages.{IsWorking}

-- a builder is at work on the first unit of a row below the first one, and what reading it needs is seen
pub record BeginsBelow (board : Place FlightFacts) (picture : PictureView) (at : UnitAt) (pass : Pass FlightFacts)
    (b : RowBuilder) : Type 0 where
  pub own : IsPassOf board pass
  pub flight : IsPictureOf board.flight picture
  pub working : IsWorking board.flight picture at (view pass) b
  pub first : at.unit ≡ 0
  pub below : 0 < at.line.row
  pub seen : AreSeen board.flight picture.layout.now (view pass)
      (read_needs (flight_rows (flight_in board.flight)) at.line at.unit)
