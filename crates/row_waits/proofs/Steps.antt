-- A wait for one final row, and what it leaves.
use Rattle.std.proofs.Common.{◌≡◌, ℕ, ◌≤◌}
use Rattle.std.specs.Prelude.{◌==◌, ◌&&◌, ◌||◌}
use Rattle.hv_base.specs.declared.line.Phase.TheVariants.{S}
use Rattle.flight_plan.specs.declared.row_range.Reference.TheVariants.{Flight}
use Rattle.board_core.specs.Needs.{range_needs}
use Rattle.board_core.specs.Places.{line_of}
use Rattle.sample_words.specs.Words.{IsLine, line_number}
use Rattle.progress_words.specs.declared.pass.Pass.{Pass}
use Rattle.progress_words.specs.Passes.{IsPassOf, view}
use Rattle.progress_words.specs.Places.{Place}
use Rattle.progress_words.specs.Views.{seen_of}
use Rattle.line_words.specs.Places.{UnitAt, number_at}
use Rattle.unit_reach.specs.SpecFlights.{flight_rows}
use Rattle.flight_waits.specs.FactsOfFlights.{FlightFacts}
use Rattle.flight_waits.specs.FactsOfFlights.{flight_meaning}
use Rattle.flight_waits.specs.FactsOfFlights.{flight_in}
use Rattle.flight_waits.specs.Waits.{AreAllKnown, AreSeen, HasWaited}
use Rattle.flight_waits.proofs.Waited.{sized}
use Rattle.flight_windows.specs.Seen.{HasRows, SeenFlags, has_row, is_seen}
use Rattle.row_waits.specs.declared.picture_view.PictureView.{PictureView}
use Rattle.row_waits.specs.Seen.{HasSeenFlags, HasLookedAround, HasRow, MayWait}
use Rattle.row_waits.proofs.Rows.{row_added, row_met, row_there, rows_stay, sees_more}
use Rattle.row_waits.proofs.Waited.{may_again}

module _ (board : Place FlightFacts) (picture : PictureView) (at : UnitAt) (before after : Pass FlightFacts)
    (old : SeenFlags) (may : MayWait board picture at before old) (own : IsPassOf board after)
    (known : AreAllKnown board.flight (view after)) (waited : HasWaited (view before) (number_at at) (view after))
  where
    rows_still : HasSeenFlags picture.layout.now (view after) old
    rows_still = rows_stay picture.layout.now (view before) (view after) old waited.more may.sees

    -- what was seen is what it was
    pub stopped_may : MayWait board picture at after old
    stopped_may = may_again board picture at before after old old may own known rows_still

    pub stopped_looked : HasLookedAround at before after old old
    stopped_looked = record { waited = waited; more = λ j row is. is }

    -- a row that was waited for is seen
    module _ (j row : ℕ) (new : SeenFlags) (sizes : HasRows new old.pictures old.rows)
        (each : (i r : ℕ) → is_seen new i r
        ≡ (is_seen old i r || (has_row old j row && (i == j && r == row))))
        (met : AreSeen board.flight picture.layout.now (view after)
        (range_needs (flight_rows (flight_in board.flight))
        (record { picture = Flight j; first = row; last = row }))) where
      counted : IsLine picture.layout.now (line_of S j row)
          → 1 ≤ seen_of (view after) (line_number picture.layout.now (line_of S j row))
      counted line =
          row_met (flight_meaning (flight_in board.flight)) (seen_of (view after)) (flight_rows (flight_in
          board.flight))
          picture.layout.now (sized board.flight picture.layout.now may.flight.flight) S j row met line

      pub ready_may : MayWait board picture at after new
      ready_may =
          may_again board picture at before after old new may own known
          (row_added old new j row each picture.layout.now (view after) rows_still sizes counted)

      pub ready_looked : HasLookedAround at before after old new
      ready_looked = record { waited = waited; more = sees_more old new j row each }

      pub ready_row : HasRow picture.layout.now new j row
      ready_row = row_there old new j row each picture.layout.now (view after) rows_still
