-- Components of the pictures of a flight, and rows of coding tree blocks that a pass has seen counted.
use Rattle.std.specs.Prelude.{◌≡◌, ◌<◌, ◌≤◌, ℕ, ◌+◌, ◌*◌, Some, slice_get}
use Rattle.hv_base.specs.declared.line.Line.{Line}
use Rattle.hv_base.specs.declared.line.Phase.TheVariants.{B}
use Rattle.plan_types.specs.declared.picture_plan.PicturePlan.{PicturePlan}
use Rattle.spec_loop_filters.specs.declared.format.FilterFormat.{FilterFormat}
use Rattle.spec_picture_filters.specs.Filtered.{filter_format}
use Rattle.loop_filters.specs.declared.component.Component.{Component}
use Rattle.row_filters.specs.Lines.{end_line}
use Rattle.board_core.specs.Places.{line_of}
use Rattle.sample_words.specs.declared.sizes.FlightSizes.{FlightSizes}
use Rattle.sample_words.specs.Contents.{component_side}
use Rattle.sample_words.specs.Sizes.{columns, ctb_size, rows}
use Rattle.sample_words.specs.Words.{line_number}
use Rattle.progress_words.specs.declared.view.View.{View}
use Rattle.progress_words.specs.Views.{seen_of}
use Rattle.flight_waits.specs.SpecFlights.{PlannedFlight}

-- the loop filters of the picture at a place of a flight take it so
pub record IsFormatAt (f : PlannedFlight) (k : ℕ) (format : FilterFormat) : Type 0 where
  pub plan : PicturePlan
  pub has : slice_get f.pictures k ≡ Some plan
  pub same : format ≡ filter_format plan

-- a component has the sides that it has in the pictures of a flight
pub record HasSidesOf (s : FlightSizes) (k : Component) : Type 0 where
  pub c : k.c < 3
  pub width : k.width ≡ component_side k.c s.width
  pub height : k.height ≡ component_side k.c s.height
  pub size : k.size ≡ component_side k.c (ctb_size s)

-- lines of a component, from one to before another, are of this row, which is that of the line or one beside it
pub record IsPartOfRow (s : FlightSizes) (k : Component) (l : Line) (row first end : ℕ) : Type 0 where
  pub inside : row < rows s
  pub up : l.row ≤ row + 1
  pub down : row ≤ l.row + 1
  pub top : k.size * row ≤ first
  pub bottom : end ≤ end_line k row 0

-- the row of a line as it is built, and those above and below it, as far as the picture has them, are seen counted
abbrev pub AreRowsBuilt : {F : Type 0} → FlightSizes → View F → Line → Type 0
AreRowsBuilt s v l =
    (r : ℕ) → r < rows s → l.row ≤ r + 1 → r ≤ l.row + 1
    → columns s ≤ seen_of v (line_number s (line_of B l.picture r))
