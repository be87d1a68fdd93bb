-- A coding tree unit whose work is done, at its place in a flight, and its words.
use Rattle.std.specs.Prelude.{ℕ, ◌≡◌, ◌+◌, ◌<◌, List, length, slice_index}
use Rattle.hv_base.specs.declared.line.Phase.TheVariants.{B}
use Rattle.plan_types.specs.declared.picture_plan.PicturePlan.{PicturePlan}
use Rattle.spec_known_units.specs.Known.{KnownUnit}
use Rattle.sample_words.specs.Sizes.{tree_words}
use Rattle.flight_packing_laws.specs.UnitWords.{DoneUnit}
use Rattle.flight_packing_laws.specs.UnitWords.{HasWord, height}
use Rattle.flight_packing_laws.specs.SpecFlights.{PlannedFlight}
use Rattle.flight_packing_laws.specs.Done.{IsDone}
use Rattle.line_words.specs.Places.{UnitAt}

-- a unit whose work is done is the one at a place of a flight, in a line of phase B
pub record IsDoneAt (f : PlannedFlight) (u : UnitAt) (d : DoneUnit) : Type 0 where
  pub plan : PicturePlan
  pub known : KnownUnit
  pub done : IsDone f u.line.picture plan known d
  pub phase : u.line.phase ≡ B
  pub row : d.row ≡ u.line.row
  pub column : d.column ≡ u.unit

-- how many words it has
abbrev pub size_of : DoneUnit → ℕ
size_of d = tree_words d.layout.now (height d) d.column

-- words are those of the unit from an index on
abbrev pub HaveWords : DoneUnit → ℕ → List ℕ → Type 0
HaveWords d first words = (k : ℕ) → k < length words → HasWord d (first + k) (slice_index words k)
