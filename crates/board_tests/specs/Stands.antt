-- Where a pass that is turned by hand stands, and what stays.
use Rattle.std.specs.Prelude.{ℕ, ◌≡◌, ◌<◌, ◌≤◌, true, false, slice_index}
use Rattle.progress_words.specs.declared.view.View.{View}
use Rattle.progress_words.specs.Places.{Place}
use Rattle.progress_words.specs.Passes.{view}
use Rattle.progress_words.specs.Views.{HasEnded}
use Rattle.board_tests.specs.declared.flight.Sums.{Sums}
use Rattle.board_tests.specs.declared.flight.Meant.{Meant}
use Rattle.board_tests.specs.declared.hand.Turn.{Turn}
use Rattle.board_tests.specs.declared.hand.Stand.{Stand}
use Rattle.board_tests.specs.declared.hand.Stand.TheVariants.{Free, Looks, Fed, Writes, Done}
use Rattle.board_tests.specs.declared.hand.Hand.{Hand}
use Rattle.board_tests.specs.Sums.{value, left_of, fed_units}
use Rattle.board_tests.specs.Steps.{IsAt, IsReady}
use Rattle.board_tests.specs.Passes.{IsOf, meaning_in}

-- the unit is the next of the line held, of whose words n are written
pub record IsUnder (f : Sums) (v : View Meant) (t : Turn) (n : ℕ) : Type 0 where
  pub none : v.none ≡ false
  pub row : t.line < f.rows
  pub column : t.unit < f.width
  pub at : IsAt v t.line t.unit n
  pub before : t.unit ≤ slice_index f.marks.items t.line

-- it has what it needs
pub record IsFed (f : Sums) (v : View Meant) (t : Turn) : Type 0 where
  pub ready : IsReady f.input.items f.marks.items f.rows f.width v t.line t.unit
  pub fed : t.unit < fed_units f.marks.items f.width t.line

abbrev pub StandsAt : Sums → View Meant → Stand → Type 0
StandsAt f v Free = HasEnded (meaning_in f) v × (v.none ≡ false)
StandsAt f v (Looks t) = IsUnder f v t 0 × (t.sum ≡ left_of f.input.items f.width t.line t.unit)
StandsAt f v (Fed t) =
    IsUnder f v t 0 × (t.sum ≡ left_of f.input.items f.width t.line t.unit) × IsFed f v t
StandsAt f v (Writes t n) = IsUnder f v t n × (t.sum ≡ value f.input.items f.width t.line t.unit) × IsFed f v t
    × (t.unit < slice_index f.marks.items t.line) × (n ≤ 2)
StandsAt f v Done = HasEnded (meaning_in f) v × (v.none ≡ true)

abbrev pub IsHand : Place Meant → Sums → Hand → Type 0
IsHand b f h = IsOf b f h.pass × StandsAt f (view h.pass) h.stand

-- the same splits and joins
pub record HasSameParts {F : Type 0} (v w : View F) : Type 0 where
  pub opens : w.opens ≡ v.opens
  pub splits : w.splits ≡ v.splits
  pub joins : w.joins ≡ v.joins

-- the pass that the board was opened with, from which one was split, and the one that was split from it
pub record IsOpener {F : Type 0} (v : View F) : Type 0 where
  pub opens : v.opens ≡ true
  pub splits : v.splits ≡ 1
  pub joins : v.joins ≡ 0

pub record IsOther {F : Type 0} (v : View F) : Type 0 where
  pub opens : v.opens ≡ false
  pub splits : v.splits ≡ 0
  pub joins : v.joins ≡ 0

-- two passes of a board: the one that it was opened with, and one that was split from it
abbrev pub AreHands : Place Meant → Sums → Hand → Hand → Type 0
AreHands b f h g = (IsHand b f h × IsOpener (view h.pass)) × (IsHand b f g × IsOther (view g.pass))

-- a pass with which all others are joined, after a draw that gave none
pub record IsGathered {F : Type 0} (v : View F) : Type 0 where
  pub opens : v.opens ≡ true
  pub whole : v.joins ≡ v.splits
  pub none : v.none ≡ true
