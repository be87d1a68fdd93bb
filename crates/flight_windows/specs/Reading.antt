-- Reading the final rows that a pass has seen.
use Rattle.std.specs.Prelude.{ℕ, ℤ, Some}
use Rattle.header_types.specs.declared.sps.PictureFormat.{PictureFormat}
use Rattle.flight_plan.specs.declared.row_range.Reference.TheVariants.{Flight}
use Rattle.spec_picture_build.specs.References.{reference_sample}
use Rattle.sample_words.specs.declared.sizes.FlightSizes.{FlightSizes}
use Rattle.progress_words.specs.declared.pass.Pass.{Pass}
use Rattle.progress_words.specs.Passes.{IsPassOf, view}
use Rattle.progress_words.specs.Places.{Place}
use Rattle.sample_lines.specs.FactsOfFlights.{FlightFacts}
use Rattle.sample_lines.specs.FactsOfFlights.{flight_in}
use Rattle.sample_lines.specs.FactsOfFlights.{IsOfFlight}
use Rattle.flight_windows.specs.declared.final_rows.FinalRows.{FinalRows}
use Rattle.flight_windows.specs.Pictures.{seen_picture}
use Rattle.flight_windows.specs.Seen.{AreFlagsSeen, SeenFlags}

-- a pass is of a board that lies as its flight is laid out, and has seen these rows counted
pub record Sees (board : Place FlightFacts) (s : FlightSizes) (seen : SeenFlags) (pass : Pass FlightFacts)
    : Type 0 where
  pub own : IsPassOf board pass
  pub flight : IsOfFlight board.flight s
  pub rows : AreFlagsSeen s (view pass) seen

-- the same of the rows that a value has
abbrev pub SeesRows : FinalRows → Pass FlightFacts → Type 0
SeesRows rows pass = Sees rows.board.now rows.layout rows.seen.now pass

-- the sample of a picture of the flight at a column and a line, or the nearest one inside, for a picture of a format; 0
-- where its row isn't seen
abbrev pub flight_sample : FinalRows → ℕ → PictureFormat → ℕ → ℤ → ℤ → ℕ
flight_sample rows picture format c x y =
    reference_sample format
    (Some (seen_picture (flight_in rows.board.now.flight) rows.seen.now (Flight picture))) c x y
