-- The state of the core of row scheduling that the words of a board show.
use Rattle.std.specs.Prelude.{ℕ, ◌≡◌, ◌==◌, List, false, Option, Some, None, min, if◌then◌else◌}
use Rattle.hv_base.specs.declared.line.Line.{Line}
use Rattle.board_core.specs.declared.event.Event.{Event}
use Rattle.board_core.specs.Places.{IsLine, lines_of}
use Rattle.board_core.specs.Runs.{AllReady, run}
use Rattle.board_core.specs.States.{CoreState, count_of, is_parsed, opening}
use Rattle.sample_words.specs.Words.{line_number}
use Rattle.progress_words.specs.Core.{count_in, fault_in, ticket_in}
use Rattle.progress_words.specs.Faults.{no_fault, unit_in}
use Rattle.flight_lines.specs.Flights.{BoardFlight, meaning_of}

-- the least fault that a fault word tells, as the core has it
abbrev pub least_in : ℕ → Option ℕ
least_in word = if word == no_fault then None else Some (unit_in word)

-- the state behind events
abbrev pub state_behind : BoardFlight → List Event → CoreState
state_behind f events = run f.plan (opening f.plan) events

-- the words show a state that a list of events leads to, each ready when it was taken: its counts, the jobs drawn and
-- the least fault. Nothing is parsed there that isn't counted: whether a unit is parsed its holder alone knows
pub record ShowsState (f : BoardFlight) (words : List ℕ) : Type 0 where
  pub events : List Event
  pub ready : AllReady f.plan (opening f.plan) events
  pub counts : (l : Line) → IsLine f.plan l
      → count_of f.plan (state_behind f events) l ≡ count_in words (line_number f.sizes l)
  pub parsed : (l : Line) → IsLine f.plan l → is_parsed f.plan (state_behind f events) l ≡ false
  pub drawn : (state_behind f events).drawn ≡ min (ticket_in (meaning_of f) words) (lines_of f.plan)
  pub least : (state_behind f events).least ≡ least_in (fault_in (meaning_of f) words)
