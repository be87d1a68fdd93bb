-- The lines of a flight, their tickets, and the numbers of their units.
use Rattle.std.specs.Prelude.{ℕ, ◌≡◌, ◌+◌, ◌-◌, ◌*◌, ◌<◌, ◌⊎◌, min, nat_lt, if◌then◌else◌, sum_by, take}
use Rattle.flight_plan.specs.Flight.{FlightRows, PictureRows, picture_at, tree_units, units_of}
use Rattle.hv_base.specs.declared.line.Line.{Line}
use Rattle.hv_base.specs.declared.line.Phase.{Phase}
use Rattle.hv_base.specs.declared.line.Phase.TheVariants.{B, V, H, S}

-- the line of a phase of a row of a picture
abbrev pub line_of : Phase → ℕ → ℕ → Line
line_of phase picture row = record { phase = phase; picture = picture; row = row }

-- a line of the flight
abbrev pub IsLine : FlightRows → Line → Type 0
IsLine plan l = l.row < (picture_at plan l.picture).rows

-- the coding tree units of a row of the line's picture
abbrev pub width_of : FlightRows → Line → ℕ
width_of plan l = (picture_at plan l.picture).width

-- the units of each line of a phase: of a B line the coding tree units of its row, of another line one
abbrev pub phase_units : Phase → PictureRows → ℕ
phase_units B p = p.width
phase_units V p = 1
phase_units H p = 1
phase_units S p = 1

-- the units of a line, which is its count when all of them are counted
abbrev pub full_count : FlightRows → Line → ℕ
full_count plan l = phase_units l.phase (picture_at plan l.picture)

-- the lines of a picture
abbrev pub picture_lines : PictureRows → ℕ
picture_lines p = 4 * p.rows

-- the lines of the flight
abbrev pub lines_of : FlightRows → ℕ
lines_of plan = sum_by picture_lines plan.pictures

-- by how many rows a phase comes behind B: whoever draws a row to filter it mostly finds it built, while the rows below
-- are still being built
abbrev pub delay : Phase → ℕ
delay B = 0
delay V = 8
delay H = 10
delay S = 12

-- the turn of a line in its picture: turn k has B(k), V(k-8), H(k-10) and S(k-12), those that exist
abbrev pub turn_of : Line → ℕ
turn_of l = l.row + delay l.phase

-- line l is drawn before line m: it is of an earlier picture, or there of an earlier turn, or in one turn of an earlier
-- phase
abbrev pub IsDrawnBefore : Line → Line → Type 0
IsDrawnBefore l m =
    (l.picture < m.picture)
    ⊎ ((l.picture ≡ m.picture)
    × ((turn_of l < turn_of m) ⊎ ((turn_of l ≡ turn_of m) × (delay l.phase < delay m.phase))))

-- in a picture of so many rows, the lines of the phase with delay `other` that are drawn before the phase with delay d
-- has its line in a turn: those of earlier turns, and that of the turn itself where the phase is earlier
abbrev pub phase_lines_before : ℕ → ℕ → ℕ → ℕ → ℕ
phase_lines_before rows turn d other = min rows (turn + (if nat_lt other d then 1 else 0) - other)

-- the lines of all phases that are
unfoldable pub lines_before : ℕ → ℕ → ℕ → ℕ
lines_before rows turn d =
    phase_lines_before rows turn d 0
    + phase_lines_before rows turn d 8
    + phase_lines_before rows turn d 10
    + phase_lines_before rows turn d 12

-- a line's ticket is the number of lines that are drawn before it
abbrev pub ticket_of : FlightRows → Line → ℕ
ticket_of plan l =
    sum_by picture_lines (take l.picture plan.pictures)
    + lines_before (picture_at plan l.picture).rows (turn_of l) (delay l.phase)

-- the units of a picture that are numbered before those of a phase
abbrev pub phase_start : Phase → PictureRows → ℕ
phase_start B p = 0
phase_start V p = tree_units p
phase_start H p = tree_units p + p.rows
phase_start S p = tree_units p + 2 * p.rows

-- the units are numbered picture by picture, in each the coding tree units in raster order, then all of V, all of H and
-- all of S, each by rows
abbrev pub unit_of : FlightRows → Line → ℕ → ℕ
unit_of plan l x =
    units_of (take l.picture plan.pictures)
    + (phase_start l.phase (picture_at plan l.picture) + (l.row * full_count plan l + x))

-- unit u is the unit x of line l
pub record IsPlaceOf (plan : FlightRows) (u : ℕ) (l : Line) (x : ℕ) : Type 0 where
  pub line : IsLine plan l
  pub inside : x < full_count plan l
  pub unit : u ≡ unit_of plan l x
