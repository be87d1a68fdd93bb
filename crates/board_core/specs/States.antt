-- The states of the core, when an event is ready, and what it does.
use Rattle.std.specs.Prelude.{ℕ, ◌≡◌, ◌+◌, ◌<◌, ◌≤◌, Bool, true, false, List, Option, Some, None, min, replicate}
use Rattle.std.specs.Prelude.{slice_index_or, slice_set, All}
use Rattle.std.specs.List.{Contains}
use Rattle.flight_plan.specs.Flight.{FlightRows}
use Rattle.hv_base.specs.declared.line.Line.{Line}
use Rattle.hv_base.specs.declared.line.Phase.TheVariants.{B}
use Rattle.board_core.specs.declared.event.Event.{Event}
use Rattle.board_core.specs.declared.event.Event.TheVariants.{Draw, Read, Build, Filter, Fault}
use Rattle.board_core.specs.Places.{full_count, IsLine, IsPlaceOf, lines_of, ticket_of, unit_of}
use Rattle.board_core.specs.Needs.{read_needs, build_needs, filter_needs}

-- by ticket, how many units of the line are counted and whether its next unit is parsed; the jobs drawn; the least
-- unit that was found to break a rule
pub record CoreState : Type 0 where
  pub counts : List ℕ
  pub parsed : List Bool
  pub drawn : ℕ
  pub least : Option ℕ

-- the state before any event
abbrev pub opening : FlightRows → CoreState
opening plan =
    record {
      counts = replicate (lines_of plan) 0;
      parsed = replicate (lines_of plan) false;
      drawn = 0;
      least = None;
    }

abbrev pub count_of : FlightRows → CoreState → Line → ℕ
count_of plan s l = slice_index_or s.counts (ticket_of plan l) 0

abbrev pub is_parsed : FlightRows → CoreState → Line → Bool
is_parsed plan s l = slice_index_or s.parsed (ticket_of plan l) false

-- whether each line has reached the count that is needed of it
abbrev pub AreCounted : FlightRows → CoreState → List (Line × ℕ) → Type 0
AreCounted plan s needs = All (λ need. need.1 ≤ count_of plan s need.0) needs

abbrev pub IsBad : FlightRows → ℕ → Type 0
IsBad plan u = Contains plan.bad u

-- a unit is before the least fault where its number is smaller, or there is none
abbrev pub IsBefore : ℕ → Option ℕ → Type 0
IsBefore u None = Unit {0}
IsBefore u (Some fault) = u < fault

-- x is the next coding tree unit of a B line that is drawn
pub record IsNext (plan : FlightRows) (s : CoreState) (l : Line) (x : ℕ) : Type 0 where
  pub line : IsLine plan l
  pub phase : l.phase ≡ B
  pub drawn : ticket_of plan l < s.drawn
  pub next : x ≡ count_of plan s l
  pub left : x < full_count plan l

-- the next unit isn't parsed, and what parsing it needs is counted
pub record IsReadable (plan : FlightRows) (s : CoreState) (l : Line) (x : ℕ) : Type 0 where
  pub next : IsNext plan s l x
  pub parsed : is_parsed plan s l ≡ false
  pub needs : AreCounted plan s (read_needs plan l x)

-- the next unit is parsed, and what building it needs is counted
pub record IsBuildable (plan : FlightRows) (s : CoreState) (l : Line) (x : ℕ) : Type 0 where
  pub next : IsNext plan s l x
  pub parsed : is_parsed plan s l ≡ true
  pub needs : AreCounted plan s (build_needs plan l x)

-- a line of another phase that is drawn and uncounted, and what it needs is counted
pub record IsFilterable (plan : FlightRows) (s : CoreState) (l : Line) : Type 0 where
  pub line : IsLine plan l
  pub phase : ¬ (l.phase ≡ B)
  pub drawn : ticket_of plan l < s.drawn
  pub uncounted : count_of plan s l ≡ 0
  pub needs : AreCounted plan s (filter_needs plan l)

-- when an event is ready
abbrev pub IsReady : FlightRows → CoreState → Event → Type 0
IsReady plan s Draw = s.drawn < lines_of plan
IsReady plan s (Read l x) = IsReadable plan s l x × ¬ IsBad plan (unit_of plan l x)
IsReady plan s (Build l x) = IsBuildable plan s l x
IsReady plan s (Filter l) = IsFilterable plan s l
IsReady plan s (Fault u) = IsBad plan u × ((l : Line) × (x : ℕ) × IsPlaceOf plan u l x × IsReadable plan s l x)

-- the lesser of a unit and the least fault so far
abbrev pub lesser : ℕ → Option ℕ → ℕ
lesser u None = u
lesser u (Some fault) = min u fault

-- the state after an event
abbrev pub after : FlightRows → CoreState → Event → CoreState
after plan s Draw = record { counts = s.counts; parsed = s.parsed; drawn = s.drawn + 1; least = s.least }
after plan s (Read l x) =
    record { counts = s.counts; parsed = slice_set s.parsed (ticket_of plan l) true; drawn = s.drawn; least = s.least }
after plan s (Build l x) =
    record {
      counts = slice_set s.counts (ticket_of plan l) (x + 1);
      parsed = slice_set s.parsed (ticket_of plan l) false;
      drawn = s.drawn;
      least = s.least;
    }
after plan s (Filter l) =
    record { counts = slice_set s.counts (ticket_of plan l) 1; parsed = s.parsed; drawn = s.drawn; least = s.least }
after plan s (Fault u) =
    record { counts = s.counts; parsed = s.parsed; drawn = s.drawn; least = Some (lesser u s.least) }

-- a flight with the state that it is in
pub record CoreOf : Type 0 where
  pub plan : FlightRows
  pub state : CoreState
