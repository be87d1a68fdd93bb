-- Lists of events, what holds of each state that they lead to, and when they end.
use Rattle.std.specs.Prelude.{ℕ, ◌≡◌, ◌<◌, ◌≤◌, true, false, List, [], ◌∷◌, Option, Some, None, length, IfSome}
use Rattle.flight_plan.specs.Flight.{FlightRows}
use Rattle.hv_base.specs.declared.line.Line.{Line}
use Rattle.hv_base.specs.declared.line.Phase.TheVariants.{B}
use Rattle.board_core.specs.declared.event.Event.{Event}
use Rattle.board_core.specs.declared.event.Event.TheVariants.{Draw, Read, Build, Filter, Fault}
use Rattle.board_core.specs.Places.{full_count, IsLine, lines_of, ticket_of, unit_of}
use Rattle.board_core.specs.Needs.{read_needs, unit_needs}
use Rattle.board_core.specs.States.{CoreState, count_of, is_parsed, AreCounted, IsBad, IsBefore, IsReady, after}

-- the state after a list of events
abbrev pub run : FlightRows → CoreState → List Event → CoreState
run plan s [] = s
run plan s (event ∷ events) = run plan (after plan s event) events

-- each event is ready when it is taken
abbrev pub AllReady : FlightRows → CoreState → List Event → Type 0
AllReady plan s [] = Unit {0}
AllReady plan s (event ∷ events) = IsReady plan s event × AllReady plan (after plan s event) events

-- what holds of every state that is reached
pub record IsSound (plan : FlightRows) (s : CoreState) : Type 0 where
  -- each line has a count and a flag, and no more jobs are drawn than there are lines
  pub counts : length s.counts ≡ lines_of plan
  pub flags : length s.parsed ≡ lines_of plan
  pub drawn : s.drawn ≤ lines_of plan
  -- a count is at most that of the line's units
  pub in_range : (l : Line) → IsLine plan l → count_of plan s l ≤ full_count plan l
  -- a line that isn't drawn stands at 0 with nothing parsed
  pub not_drawn : (l : Line) → IsLine plan l → s.drawn ≤ ticket_of plan l
      → (count_of plan s l ≡ 0) × (is_parsed plan s l ≡ false)
  -- the needs of each counted unit are counted
  pub counted : (l : Line) → (x : ℕ) → IsLine plan l → x < count_of plan s l → AreCounted plan s (unit_needs plan l x)
  -- a parsed unit is the next of a B line, isn't bad, and what parsing it needs is counted
  pub parsed_phase : (l : Line) → IsLine plan l → is_parsed plan s l ≡ true → l.phase ≡ B
  pub parsed_left : (l : Line) → IsLine plan l → is_parsed plan s l ≡ true → count_of plan s l < full_count plan l
  pub parsed_good : (l : Line) → IsLine plan l → is_parsed plan s l ≡ true
      → ¬ IsBad plan (unit_of plan l (count_of plan s l))
  pub parsed_needs : (l : Line) → IsLine plan l → is_parsed plan s l ≡ true
      → AreCounted plan s (read_needs plan l (count_of plan s l))
  -- no counted unit is bad
  pub good : (l : Line) → (x : ℕ) → IsLine plan l → x < count_of plan s l → ¬ IsBad plan (unit_of plan l x)
  -- the least fault is none or bad
  pub fault : IfSome s.least (λ u. IsBad plan u)

-- no unit before the least fault is uncounted
abbrev pub IsEnded : FlightRows → CoreState → Type 0
IsEnded plan s = (l : Line) → (x : ℕ) → IsLine plan l → x < full_count plan l → IsBefore (unit_of plan l x) s.least
    → x < count_of plan s l

-- a job is unfinished while it has an uncounted unit before the least fault
pub record IsUnfinished (plan : FlightRows) (s : CoreState) (l : Line) : Type 0 where
  pub line : IsLine plan l
  pub drawn : ticket_of plan l < s.drawn
  pub unit : (x : ℕ) × (count_of plan s l ≤ x) × (x < full_count plan l) × IsBefore (unit_of plan l x) s.least

-- the event is Draw, or of a unit before the least fault
abbrev pub IsBeforeFault : FlightRows → CoreState → Event → Type 0
IsBeforeFault plan s Draw = Unit {0}
IsBeforeFault plan s (Read l x) = IsBefore (unit_of plan l x) s.least
IsBeforeFault plan s (Build l x) = IsBefore (unit_of plan l x) s.least
IsBeforeFault plan s (Filter l) = IsBefore (unit_of plan l 0) s.least
IsBeforeFault plan s (Fault u) = IsBefore u s.least

-- the least bad unit, or none where no unit is bad
abbrev pub IsLeastBad : FlightRows → Option ℕ → Type 0
IsLeastBad plan None = (u : ℕ) → ¬ IsBad plan u
IsLeastBad plan (Some fault) = IsBad plan fault × ((u : ℕ) → IsBad plan u → fault ≤ u)
