-- Which lines still have a unit to count.
use Rattle.std.specs.Prelude.{ℕ, ◌<◌}
use Rattle.flight_plan.specs.Flight.{FlightRows}
use Rattle.hv_base.specs.declared.line.Line.{Line}
use Rattle.board_core.specs.Places.{full_count, IsLine, ticket_of, unit_of}
use Rattle.board_core.specs.States.{CoreState, count_of, IsBefore}

-- the line has a next unit, and that unit is before the least fault
pub record IsLeft (plan : FlightRows) (s : CoreState) (l : Line) : Type 0 where
  pub left : count_of plan s l < full_count plan l
  pub before : IsBefore (unit_of plan l (count_of plan s l)) s.least

-- no line with a ticket below n is left
abbrev pub AreDone : FlightRows → CoreState → ℕ → Type 0
AreDone plan s n = (l : Line) → IsLine plan l → ticket_of plan l < n → ¬ IsLeft plan s l
