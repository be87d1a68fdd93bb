-- The units of lines of a flight, and their words.
use Rattle.std.specs.Prelude.{ℕ, ◌≡◌, ◌<◌}
use Rattle.hv_base.specs.declared.line.Line.{Line}
use Rattle.sample_words.specs.declared.sizes.FlightSizes.{FlightSizes}
use Rattle.sample_words.specs.declared.unit_word.UnitWord.{UnitWord}
use Rattle.sample_words.specs.Words.{IsLine, line_number, line_units, unit_start, unit_words}
use Rattle.flight_lines.specs.Flights.{BoardFlight, IsSized}

-- a unit of a line of a flight whose pictures have these sizes
pub record UnitAt : Type 0 where
  pub sizes : FlightSizes
  pub line : Line
  pub unit : ℕ

-- the flight has the line, and the line the unit
pub record IsUnit (u : UnitAt) : Type 0 where
  pub line : IsLine u.sizes u.line
  pub unit : u.unit < line_units u.sizes u.line.phase

-- the number of its line on a board
abbrev pub number_at : UnitAt → ℕ
number_at u = line_number u.sizes u.line

-- its first word, how many words it has, and one of them by its index
abbrev pub start_at : UnitAt → ℕ
start_at u = unit_start u.sizes u.line u.unit

abbrev pub words_at : UnitAt → ℕ
words_at u = unit_words u.sizes u.line u.unit

abbrev pub word_at : UnitAt → ℕ → UnitWord
word_at u k = record { line = u.line; unit = u.unit; index = k }

-- the pictures of the flight have these sizes
abbrev pub HasSizes : BoardFlight → FlightSizes → Type 0
HasSizes f s = (f.sizes ≡ s) × IsSized f.plan f.sizes
