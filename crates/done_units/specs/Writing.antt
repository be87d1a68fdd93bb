-- What a pass knows while it writes the words of a unit.
use Rattle.std.specs.Prelude.{ℕ, ◌≡◌}
use Rattle.progress_words.specs.declared.pass.Pass.{Pass}
use Rattle.progress_words.specs.declared.view.View.{View}
use Rattle.progress_words.specs.Passes.{IsPassOf, Knows, view}
use Rattle.progress_words.specs.Places.{Place}
use Rattle.progress_words.specs.Rule.{IsNext}
use Rattle.progress_words.specs.Views.{seen_of}
use Rattle.line_words.specs.Places.{UnitAt, number_at}
use Rattle.flight_waits.specs.FactsOfFlights.{FlightFacts}
use Rattle.flight_waits.specs.FactsOfFlights.{flight_meaning}
use Rattle.flight_waits.specs.FactsOfFlights.{flight_in}

-- a pass of a board is at a unit, which it may count once its words are written, and has written so many of them
pub record IsWriting (board : Place FlightFacts) (pass : Pass FlightFacts) (u : UnitAt) (n : ℕ) : Type 0 where
  pub own : IsPassOf board pass
  pub next : IsNext (flight_meaning (flight_in board.flight)) (view pass) (number_at u)
  pub unit : seen_of (view pass) (number_at u) ≡ u.unit
  pub written : (view pass).written ≡ n

-- so many words of the next unit are written
abbrev pub written_to : View FlightFacts → ℕ → View FlightFacts
written_to v n = record v { written = n }

-- a pass has gone on with writing until so many words are written, and has done nothing else
pub record HasWritten (board : Place FlightFacts) (before after : Pass FlightFacts) (u : UnitAt) (n : ℕ)
    : Type 0 where
  pub writing : IsWriting board after u n
  pub knows : Knows before after (written_to (view before) n)
