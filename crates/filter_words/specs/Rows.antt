-- Rows of coding tree units of a picture of a flight, as a pass has seen them counted.
use Rattle.std.specs.Prelude.{◌≡◌, ◌<◌, ◌≤◌, ℕ, ◌+◌, ◌-◌, ◌*◌, ◌/◌, ◌&&◌, nat_lt, Bool, true}
use Rattle.hv_base.specs.declared.line.Line.{Line}
use Rattle.hv_base.specs.declared.line.Phase.TheVariants.{B}
use Rattle.board_core.specs.Places.{line_of}
use Rattle.progress_words.specs.declared.view.View.{View}
use Rattle.progress_words.specs.Views.{seen_of}
use Rattle.sample_words.specs.declared.sizes.FlightSizes.{FlightSizes}
use Rattle.sample_words.specs.Sizes.{columns, rows}
use Rattle.sample_words.specs.Words.{line_number}
use Rattle.flight_facts.specs.SpecFlights.{is_sound}
use Rattle.flight_facts.specs.declared.flight_facts.FlightFacts.{FlightFacts}
use Rattle.flight_facts.specs.Facts.{flight_in}
use Rattle.filter_words.specs.Regions.{is_inside}
use Rattle.filter_words.specs.Units.{unit_side}

-- all coding tree units of the row that a line is of are seen counted, and are sound
pub record IsRowSeen (facts : FlightFacts) (s : FlightSizes) (v : View FlightFacts) (l : Line) : Type 0 where
  pub seen : columns s ≤ seen_of v (line_number s (line_of B l.picture l.row))
  pub sound : (x : ℕ) → x < columns s → is_sound (flight_in facts) (line_of B l.picture l.row) x ≡ true

-- so are those of its row, and of so many rows on each side, as far as the picture has them
abbrev pub AreRowsSeen : FlightFacts → FlightSizes → View FlightFacts → Line → ℕ → Type 0
AreRowsSeen facts s v l beside =
    (r : ℕ) → r < rows s → l.row ≤ r + beside → r ≤ l.row + beside
    → IsRowSeen facts s v (line_of l.phase l.picture r)

-- whether a place of the picture is in the rows of places of a row of coding tree blocks, from one to before another
abbrev pub is_in_row : FlightSizes → ℕ → ℕ → ℕ → ℕ → ℕ → Bool
is_in_row s row first end =
    is_inside 0 (s.width / 4) (unit_side s * row + first) (unit_side s * row + end)

-- whether a place is in the lowest rows of places of the row above, as many as are asked for beside the row
abbrev pub is_just_above : FlightSizes → ℕ → ℕ → ℕ → ℕ → Bool
is_just_above s row beside x y =
    (nat_lt 0 beside && nat_lt 0 row) && is_in_row s (row - 1) (unit_side s - beside) (unit_side s) x y

-- and in the first ones of the row below
abbrev pub is_just_below : FlightSizes → ℕ → ℕ → ℕ → ℕ → Bool
is_just_below s row beside x y =
    (nat_lt 0 beside && nat_lt (row + 1) (rows s)) && is_in_row s (row + 1) 0 beside x y
