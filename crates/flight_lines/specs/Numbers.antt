-- The lines, needs and words of a flight by the numbers that a board has for them.
use Rattle.std.specs.Prelude.{ℕ, zero, suc, ◌+◌, ◌*◌, ◌==◌, List, map, All, if◌then◌else◌}
use Rattle.hv_base.specs.declared.line.Line.{Line}
use Rattle.hv_base.specs.declared.line.Phase.{Phase}
use Rattle.hv_base.specs.declared.line.Phase.TheVariants.{B, V, H, S}
use Rattle.flight_plan.specs.Flight.{FlightRows}
use Rattle.board_core.specs.Places.{ticket_of}
use Rattle.sample_words.specs.declared.sizes.FlightSizes.{FlightSizes}
use Rattle.sample_words.specs.declared.unit_word.UnitWord.{UnitWord}
use Rattle.sample_words.specs.declared.unit_word.WordOwner.{WordOwner}
use Rattle.sample_words.specs.declared.unit_word.WordOwner.TheVariants.{Count, Ticket, Fault, Spare, Unit}
use Rattle.sample_words.specs.Sizes.{columns, rows}
use Rattle.sample_words.specs.Words.{IsLine, line_at, line_number, line_units, lines}
use Rattle.progress_words.specs.Meanings.{Spot}

-- the ticket of a line that has a number
abbrev pub ticket_at : FlightRows → FlightSizes → ℕ → ℕ
ticket_at plan s n = ticket_of plan (line_at s n)

-- of the first so many lines the one that has a ticket, where each has another; 0 where none has it
unfoldable pub number_with : (ℕ → ℕ) → ℕ → ℕ → ℕ
number_with ticket zero t = 0
number_with ticket (suc n) t = if ticket n == t then n else number_with ticket n t

-- the line of a flight that has a ticket, by its number
abbrev pub drawn_at : FlightRows → FlightSizes → ℕ → ℕ
drawn_at plan s t = number_with (ticket_at plan s) (lines s) t

-- a need, and needs, with lines by number
abbrev pub numbered : FlightSizes → Line × ℕ → ℕ × ℕ
numbered s need = (line_number s need.0, need.1)

abbrev pub numbered_needs : FlightSizes → List (Line × ℕ) → List (ℕ × ℕ)
numbered_needs s needs = map (numbered s) needs

-- needs are of lines of the flight
abbrev pub AreOfFlight : FlightSizes → List (Line × ℕ) → Type 0
AreOfFlight s needs = All (λ need. IsLine s need.0) needs

-- the units of a picture, those of a picture before a phase, and the number of a unit in the flight
abbrev pub units_a_picture : FlightSizes → ℕ
units_a_picture s = rows s * columns s + 3 * rows s

abbrev pub units_before : FlightSizes → Phase → ℕ
units_before s B = 0
units_before s V = rows s * columns s
units_before s H = rows s * columns s + rows s
units_before s S = rows s * columns s + 2 * rows s

abbrev pub unit_number : FlightSizes → Line → ℕ → ℕ
unit_number s l x = l.picture * units_a_picture s + (units_before s l.phase + (l.row * line_units s l.phase + x))

-- the line and the unit of a word of a unit, by number
abbrev pub spot_of : FlightSizes → UnitWord → Spot
spot_of s u = record { line = line_number s u.line; unit = u.unit; index = u.index }

abbrev pub no_spot : Spot
no_spot = record { line = 0; unit = 0; index = 0 }

abbrev pub spot_by : FlightSizes → WordOwner → Spot
spot_by s (Count l) = no_spot
spot_by s Ticket = no_spot
spot_by s Fault = no_spot
spot_by s Spare = no_spot
spot_by s (Unit u) = spot_of s u

-- what a word is to hold, by what words of units are
abbrev pub expected_by : (UnitWord → ℕ) → WordOwner → ℕ
expected_by expected (Count l) = 0
expected_by expected Ticket = 0
expected_by expected Fault = 0
expected_by expected Spare = 0
expected_by expected (Unit u) = expected u
