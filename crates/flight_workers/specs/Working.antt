-- A pass before and behind the work on lines of a flight.
use Rattle.std.specs.Prelude.{ℕ, ◌≡◌, ◌+◌, ◌≤◌, true, false, None, List, length, All}
use Rattle.hv_base.specs.declared.line.Line.{Line}
use Rattle.sample_words.specs.declared.sizes.FlightSizes.{FlightSizes}
use Rattle.progress_words.specs.declared.pass.Pass.{Pass}
use Rattle.progress_words.specs.declared.view.View.{View}
use Rattle.progress_words.specs.Passes.{IsPassOf, view}
use Rattle.progress_words.specs.Places.{Place}
use Rattle.progress_words.specs.Views.{HasEnded, seen_of}
use Rattle.line_words.specs.Places.{UnitAt}
use Rattle.flight_waits.specs.FactsOfFlights.{FlightFacts}
use Rattle.flight_waits.specs.FactsOfFlights.{flight_meaning}
use Rattle.flight_waits.specs.FactsOfFlights.{flight_in}
use Rattle.flight_waits.specs.FactsOfFlights.{IsOfFlight}
use Rattle.flight_waits.specs.Waits.{AreAllKnown, HasSameParts, HoldsUnit}

-- the first unit of a line
abbrev pub first_unit : FlightSizes → Line → UnitAt
first_unit s line = record { sizes = s; line = line; unit = 0 }

-- a pass of the board holds a line of which no unit is counted, and all that it has seen is sound
pub record HoldsLine (b : Place FlightFacts) (s : FlightSizes) (p : Pass FlightFacts) (line : Line) : Type 0 where
  pub own : IsPassOf b p
  pub holds : HoldsUnit (view p) (first_unit s line)
  pub written : (view p).written ≡ 0
  pub known : AreAllKnown b.flight (view p)

-- its job has ended
pub record HasEndedLine (b : Place FlightFacts) (p q : Pass FlightFacts) : Type 0 where
  pub own : IsPassOf b q
  pub known : AreAllKnown b.flight (view q)
  pub ended : HasEnded (flight_meaning (flight_in b.flight)) (view q)
  pub same : HasSameParts (view p) (view q)

-- a pass that has drawn nothing
pub record IsFresh (b : Place FlightFacts) (p : Pass FlightFacts) : Type 0 where
  pub own : IsPassOf b p
  pub known : AreAllKnown b.flight (view p)
  pub job : (view p).job ≡ None
  pub none : (view p).none ≡ false

-- a worker may begin with it: what holds of one between lines holds of this one
pub record MayWork {X : Type 0} (Stands : X → FlightFacts → (ℕ → ℕ) → Type 0) (b : Place FlightFacts) (s : FlightSizes)
    (p : Pass FlightFacts) (worker : X) : Type 0 where
  pub flight : IsOfFlight b.flight s
  pub fresh : IsFresh b p
  pub stands : Stands worker b.flight (seen_of (view p))

-- workers may begin with it, for each of which but the first another pass is split off
pub record MayFan {X : Type 0} (Stands : X → FlightFacts → (ℕ → ℕ) → Type 0) (b : Place FlightFacts) (s : FlightSizes)
    (p : Pass FlightFacts) (worker : X) (others : List X) : Type 0 where
  pub first : MayWork Stands b s p worker
  pub all : All (λ other. Stands other b.flight (seen_of (view p))) others
  pub opens : (view p).opens ≡ true
  pub few : (view p).splits + length others ≤ 256

-- it found no line left, and the line that it held last has ended
pub record IsDone (b : Place FlightFacts) (p q : Pass FlightFacts) : Type 0 where
  pub own : IsPassOf b q
  pub known : AreAllKnown b.flight (view q)
  pub ended : HasEnded (flight_meaning (flight_in b.flight)) (view q)
  pub none : (view q).none ≡ true
  pub opens : (view q).opens ≡ (view p).opens
  pub splits : (view q).splits ≡ (view p).splits
  pub joins : (view q).joins ≡ (view p).joins

-- and as many passes were joined to it as were split off
pub record IsGathered (b : Place FlightFacts) (p q : Pass FlightFacts) : Type 0 where
  pub own : IsPassOf b q
  pub known : AreAllKnown b.flight (view q)
  pub ended : HasEnded (flight_meaning (flight_in b.flight)) (view q)
  pub none : (view q).none ≡ true
  pub opens : (view q).opens ≡ (view p).opens
  pub whole : (view q).splits + (view p).joins ≡ (view q).joins + (view p).splits
