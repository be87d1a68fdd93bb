-- The rows that a row of coding tree blocks is filtered from, where all that it needs is seen counted.
use Rattle.std.proofs.Common.{◌≡◌, ℕ, ◌+◌, ◌-◌, ◌<◌, arith, All, length}
use Rattle.hv_base.specs.declared.line.Line.{Line}
use Rattle.hv_base.specs.declared.line.Phase.TheVariants.{B, S}
use Rattle.flight_plan.specs.Flight.{FlightRows, picture_at}
use Rattle.board_core.specs.Needs.{rows_needs}
use Rattle.board_core.specs.Places.{line_of}
use Rattle.board_core.proofs.Order.{line_inside}
use Rattle.sample_words.specs.declared.sizes.FlightSizes.{FlightSizes}
use Rattle.sample_words.specs.Sizes.{columns, rows}
use Rattle.sample_words.specs.Words.{IsLine as IsWordLine}
use Rattle.progress_words.specs.declared.view.View.{View}
use Rattle.progress_words.specs.Views.{seen_of}
use Rattle.flight_waits.specs.SpecFlights.{flight_rows}
use Rattle.sample_lines.specs.FactsOfFlights.{FlightFacts}
use Rattle.sample_lines.specs.FactsOfFlights.{flight_meaning}
use Rattle.sample_lines.specs.FactsOfFlights.{flight_in}
use Rattle.sample_lines.specs.FactsOfFlights.{IsOfFlight}
use Rattle.flight_waits.specs.Waits.{AreAllKnown}
use Rattle.flight_waits.proofs.Waited.{line_there, sized}
use Rattle.filter_words.specs.Rows.{AreRowsSeen}
use Rattle.filtered_rows.specs.Components.{AreRowsBuilt}
use Rattle.filtered_rows.specs.Phases.{IsReady}
use Rattle.filtered_rows.proofs.Ready.{IsMet, by_line, row_met, seen_sound}

module _ (facts : FlightFacts) (s : FlightSizes) (is : IsOfFlight facts s) (v : View FlightFacts) (l : Line)
    (line : IsWordLine s l) where
  abbrev plan : FlightRows
  plan = flight_rows (flight_in facts)

  abbrev Met : Line × ℕ → Type 0
  Met = IsMet (flight_meaning (flight_in facts)) (seen_of v) s

  inside : l.picture < length plan.pictures
  inside = line_inside plan l (line_there facts s is l line)

  high : (picture_at plan l.picture).rows ≡ rows s
  high = (sized facts s is).heights l.picture inside

  wide : (picture_at plan l.picture).width ≡ columns s
  wide = (sized facts s is).widths l.picture inside

  module _ (ready : IsReady facts s v l) (last : l.phase ≡ S) where
    built_met : All Met (rows_needs plan B l.picture (l.row - 1) (l.row + 1))
    built_met =
        by_line (flight_meaning (flight_in facts)) (seen_of v) s
        (rows_needs plan B l.picture (l.row - 1) (l.row + 1)) (ready.built last)

    -- the rows as they are built
    pub rows_built : AreRowsBuilt s v l
    rows_built r there low up =
        let tall = high in
        let across = wide in
        let counted =
        row_met (flight_meaning (flight_in facts)) (seen_of v) s plan B l.picture (l.row - 1) (l.row + 1) r built_met
        (omega (arith, low)) (omega (arith, up)) (omega (arith, tall, there)) in
        omega (arith, counted, across)

    -- and their units, which tell places and offsets
    pub rows_seen : AreAllKnown facts v → AreRowsSeen facts s v l 1
    rows_seen known r there low up =
        let counted = rows_built r there low up in
        record {
          seen = counted;
          sound = λ x less.
              seen_sound facts s is (line_of B l.picture r) (record { picture = line.picture; row = there }) v known x
              (omega (arith, less, counted));
        }
