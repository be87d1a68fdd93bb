-- What a row of coding tree blocks waits for in a phase of the loop filters, and what is known where it is filtered.
use Rattle.std.specs.Prelude.{◌≡◌, ◌<◌, ℕ, ◌+◌, ◌-◌}
use Rattle.hv_base.specs.declared.line.Line.{Line}
use Rattle.hv_base.specs.declared.line.Phase.TheVariants.{B, S}
use Rattle.spec_picture_filters.specs.Data.{FilterData}
use Rattle.row_filters.specs.Around.{Around, place_in, unit_in}
use Rattle.row_filters.specs.Known.{ArePlaces, AreUnits}
use Rattle.board_core.specs.Needs.{filter_needs, rows_needs}
use Rattle.sample_words.specs.declared.sizes.FlightSizes.{FlightSizes}
use Rattle.progress_words.specs.declared.view.View.{View}
use Rattle.flight_waits.specs.SpecFlights.{flight_rows}
use Rattle.sample_lines.specs.FactsOfFlights.{FlightFacts}
use Rattle.sample_lines.specs.FactsOfFlights.{flight_in}
use Rattle.flight_waits.specs.Waits.{AreSeen}

-- all units that the row needs are seen counted, and for sample adaptive offset those of the rows beside it as they are
-- built, which it is filtered from
pub record IsReady {F : Type 0} (facts : FlightFacts) (s : FlightSizes) (v : View F) (l : Line) : Type 0 where
  pub needs : AreSeen facts s v (filter_needs (flight_rows (flight_in facts)) l)
  pub built : l.phase ≡ S
      → AreSeen facts s v (rows_needs (flight_rows (flight_in facts)) B l.picture (l.row - 1) (l.row + 1))

-- what its filters ask of places and of units is known
abbrev pub IsAroundKnown : FilterData → ℕ → Around → Type 0
IsAroundKnown gathered row around =
    ArePlaces around.format row 2 gathered.places (place_in around)
    × ((c : ℕ) → c < 3 → AreUnits around.format c row gathered.units (unit_in around))
