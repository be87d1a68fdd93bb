-- What a pass knows when it has waited for what a unit needs.
use Rattle.std.specs.Prelude.{ℕ, ◌≡◌, ◌≤◌, List, Some}
use Rattle.hv_base.specs.declared.line.Line.{Line}
use Rattle.sample_words.specs.declared.sizes.FlightSizes.{FlightSizes}
use Rattle.progress_words.specs.declared.view.View.{View}
use Rattle.progress_words.specs.Core.{AreMet}
use Rattle.progress_words.specs.Views.{seen_of}
use Rattle.flight_lines.specs.Numbers.{numbered_needs}
use Rattle.line_words.specs.Passes.{AreAllSound}
use Rattle.line_words.specs.Places.{UnitAt, number_at}
use Rattle.flight_facts.specs.declared.flight_facts.FlightFacts.{FlightFacts}
use Rattle.flight_facts.specs.Boards.{flight_meaning}
use Rattle.flight_facts.specs.Facts.{flight_in}

-- a pass holds the line of a unit, which is the next one there
pub record HoldsUnit {F : Type 0} (v : View F) (at : UnitAt) : Type 0 where
  pub job : v.job ≡ Some (number_at at)
  pub next : seen_of v (number_at at) ≡ at.unit

-- it has waited: it holds what it held and has seen as much of that line, and no less of each line
pub record HasWaited {F : Type 0} (v : View F) (line : ℕ) (w : View F) : Type 0 where
  pub same : w ≡ record v { seen = w.seen; loads = w.loads; least = w.least; fault_loads = w.fault_loads }
  pub more : (l : ℕ) → seen_of v l ≤ seen_of w l
  pub own : seen_of w line ≡ seen_of v line

-- it has drawn, split and joined as before
pub record HasSameParts {F : Type 0} (v w : View F) : Type 0 where
  pub none : w.none ≡ v.none
  pub opens : w.opens ≡ v.opens
  pub splits : w.splits ≡ v.splits
  pub joins : w.joins ≡ v.joins

-- by what it has seen of the lines of a flight needs are met
abbrev pub AreSeen : {F : Type 0} → FlightFacts → FlightSizes → View F → List (Line × ℕ) → Type 0
AreSeen facts s v needs = AreMet (flight_meaning (flight_in facts)) (seen_of v) (numbered_needs s needs)

-- all units that it has seen counted are sound
abbrev pub AreAllKnown : {F : Type 0} → FlightFacts → View F → Type 0
AreAllKnown facts v = AreAllSound (flight_meaning (flight_in facts)) v
