-- What the words of a board that was closed hold of a flight.
use Rattle.std.specs.Prelude.{ℕ, ◌≡◌, ◌%◌, ◌<◌, List, Some, slice_index}
use Rattle.hv_base.specs.declared.line.Line.{Line}
use Rattle.board_core.specs.Places.{full_count, IsLine, IsPlaceOf, unit_of}
use Rattle.board_core.specs.Runs.{IsLeastBad}
use Rattle.board_core.specs.States.{IsBefore}
use Rattle.sample_words.specs.declared.unit_word.UnitWord.{UnitWord}
use Rattle.sample_words.specs.Words.{IsUnitWord, line_number, word_of}
use Rattle.progress_words.specs.Core.{count_in, fault_in}
use Rattle.progress_words.specs.Faults.{IsFirstFault, unit_in}
use Rattle.progress_words.specs.Meanings.{IsData, Meaning}
use Rattle.flight_lines.specs.Flights.{BoardFlight, meaning_of}
use Rattle.flight_lines.specs.Shown.{least_in}

-- what closing a board tells of its words
pub record IsClosed (m : Meaning) (words : List ℕ) : Type 0 where
  pub fault : IsFirstFault m (fault_in m words)
  pub counted : (l k : ℕ) → l < m.lines → k < m.width l → m.number l k < unit_in (fault_in m words)
      → k < count_in words l
  pub words_are : (w : ℕ) → IsData m w
      → m.number (m.owner w).line (m.owner w).unit < unit_in (fault_in m words)
      → slice_index words w ≡ m.expected w

-- unit u breaks the rule of this number
pub record BreaksRule (f : BoardFlight) (u r : ℕ) : Type 0 where
  pub line : Line
  pub x : ℕ
  pub place : IsPlaceOf f.plan u line x
  pub rule : f.rule line x ≡ Some r

-- the fault word is none where no unit is bad, else it tells the least bad unit and the rule that it breaks; each unit
-- before that is counted, and each of its words is as expected
pub record HoldsFlight (f : BoardFlight) (words : List ℕ) : Type 0 where
  pub least : IsLeastBad f.plan (least_in (fault_in (meaning_of f) words))
  pub rule : (u : ℕ) → least_in (fault_in (meaning_of f) words) ≡ Some u
      → BreaksRule f u (fault_in (meaning_of f) words % 32)
  pub counted : (l : Line) (x : ℕ) → IsLine f.plan l → x < full_count f.plan l
      → IsBefore (unit_of f.plan l x) (least_in (fault_in (meaning_of f) words))
      → x < count_in words (line_number f.sizes l)
  pub words_are : (u : UnitWord) → IsUnitWord f.sizes u
      → IsBefore (unit_of f.plan u.line u.unit) (least_in (fault_in (meaning_of f) words))
      → slice_index words (word_of f.sizes u) ≡ f.expected u
