-- What holds of the words and of all views, between any two steps.
use Rattle.std.specs.Prelude.{ℕ, ◌≡◌, ◌+◌, ◌<◌, ◌≤◌, ◌⊎◌, List, true, false, Some, None, slice_index, length}
use mathlib.Core.Option.{some}
use lib.ListN.{get_elem?}
use Rattle.atomic_table.specs.Table.{State}
use Rattle.progress_words.specs.declared.view.View.{View}
use Rattle.progress_words.specs.Meanings.{Meaning, IsData, IsLaid}
use Rattle.progress_words.specs.Counts.{total}
use Rattle.progress_words.specs.Faults.{no_fault, unit_in, IsFault}
use Rattle.progress_words.specs.Core.{count_in, ticket_in, fault_in, AreMet, IsReached}
use Rattle.progress_words.specs.Views.{seen_of, is_live, is_ended, is_opener, splits_of, joins_of}

-- the words of the next unit of line l that its holder has written have the expected values
abbrev pub AreWritten : Meaning → List ℕ → ℕ → ℕ → Type 0
AreWritten m words l n =
    (w : ℕ) → IsData m w → (m.owner w).line ≡ l → (m.owner w).unit ≡ count_in words l → (m.owner w).index < n
    → slice_index words w ≡ m.expected w

pub record IsHolder {F : Type 0} (m : Meaning) (words : List ℕ) (v : View F) (l : ℕ) : Type 0 where
  pub line : l < m.lines
  pub drawn : m.ticket_of l < ticket_in m words
  pub count : count_in words l ≡ seen_of v l
  pub written : AreWritten m words l v.written

-- what the rule says of one view
pub record Fits {F : Type 0} (m : Meaning) (key : F) (words : List ℕ) (v : View F) : Type 0 where
  pub facts : (f : F) → v.facts ≡ Some f → f ≡ key
  pub seen : (l : ℕ) → l < m.lines → seen_of v l ≤ count_in words l
  pub least : fault_in m words ≤ v.least
  pub job : (l : ℕ) → v.job ≡ Some l → IsHolder m words v l
  pub none : v.none ≡ true → m.lines ≤ ticket_in m words
  pub spent : v.facts ≡ None → v.job ≡ None
  pub splits : v.opens ≡ false → v.splits ≡ 0

-- what the rule says of the words alone: they show a state of the core
pub record IsShown (m : Meaning) (words : List ℕ) : Type 0 where
  -- a list of events leads there, each ready when it was taken
  pub reached : IsReached m words
  pub room : length words ≡ m.total
  -- counts are in range, and the units that are counted are sound, with their needs counted
  pub counts : (l : ℕ) → l < m.lines → count_in words l ≤ m.width l
  pub sound : (l k : ℕ) → l < m.lines → k < count_in words l → m.sound l k ≡ true
  pub met : (l k : ℕ) → l < m.lines → k < count_in words l → AreMet m (count_in words) (m.needs l k)
  -- the data words of counted units are expected
  pub words_are : (w : ℕ) → IsData m w → (m.owner w).unit < count_in words (m.owner w).line
      → slice_index words w ≡ m.expected w
  -- a line whose job isn't drawn stands at 0
  pub idle : (l : ℕ) → l < m.lines → ticket_in m words ≤ m.ticket_of l → count_in words l ≡ 0
  -- the fault word is none, or a bad unit with the rule that it breaks
  pub fault : IsFault m (fault_in m words)
  pub small : fault_in m words ≤ no_fault

-- the line is full, or its next unit isn't before the fault word
abbrev pub IsOver : Meaning → List ℕ → ℕ → Type 0
IsOver m words l =
    (count_in words l ≡ m.width l) ⊎ (unit_in (fault_in m words) ≤ m.number l (count_in words l))

-- some view holds line l
abbrev pub IsHeld : {F : Type 0} → List (View F) → ℕ → Type 0
IsHeld {F} views l = (i : ℕ) × ((v : View F) × ((get_elem? views i ≡ some v) × (v.job ≡ Some l)))

-- the jobs of two views differ
abbrev pub AreApart : {F : Type 0} → List (View F) → Type 0
AreApart {F} views = (i j l : ℕ) (v u : View F) → get_elem? views i ≡ some v → get_elem? views j ≡ some u
    → v.job ≡ Some l → u.job ≡ Some l → i ≡ j

pub record Stands {F S : Type 0} (meaning : F → Meaning) (key : F) (s : State S (View F)) : Type 0 where
  pub laid : IsLaid (meaning key)
  pub shown : IsShown (meaning key) s.words
  -- a drawn job is held by a view or has ended
  pub drawn : (l : ℕ) → l < (meaning key).lines → (meaning key).ticket_of l < ticket_in (meaning key) s.words
      → IsHeld s.views l ⊎ IsOver (meaning key) s.words l
  pub fits : (i : ℕ) (v : View F) → get_elem? s.views i ≡ some v → Fits (meaning key) key s.words v
  pub apart : AreApart s.views
  -- the ticket is at most the jobs and the views that had a None or are spent
  pub ticket : ticket_in (meaning key) s.words ≤ (meaning key).lines + total is_ended s.views
  -- views are made by splits, which only the first view counts, and spent by joins
  pub made : length s.views ≡ 1 + total splits_of s.views
  pub left : total is_live s.views + total joins_of s.views ≡ 1 + total splits_of s.views
  pub one : total is_opener s.views ≡ 1
  pub few : total splits_of s.views ≤ 256

-- what `write` and `advance` ask of the next unit of the line held: it is sound, and its needs are seen counted
pub record IsNext {F : Type 0} (m : Meaning) (v : View F) (l : ℕ) : Type 0 where
  pub line : l < m.lines
  pub job : v.job ≡ Some l
  pub left : seen_of v l < m.width l
  pub sound : m.sound l (seen_of v l) ≡ true
  pub met : AreMet m (seen_of v) (m.needs l (seen_of v l))

-- the word is the next of the next unit
pub record IsNextWord {F : Type 0} (m : Meaning) (v : View F) (w : ℕ) : Type 0 where
  pub word : IsData m w
  pub next : IsNext m v (m.owner w).line
  pub unit : (m.owner w).unit ≡ seen_of v (m.owner w).line
  pub index : (m.owner w).index ≡ v.written

-- what `fault` asks: the next unit of the line held has this number and breaks this rule, and what finding that needs
-- is seen counted
pub record IsNextBad {F : Type 0} (m : Meaning) (v : View F) (unit rule : ℕ) : Type 0 where
  pub line : ℕ
  pub inside : line < m.lines
  pub job : v.job ≡ Some line
  pub left : seen_of v line < m.width line
  pub number : unit ≡ m.number line (seen_of v line)
  pub bad : m.bad line (seen_of v line) ≡ Some rule
  pub met : AreMet m (seen_of v) (m.read_needs line (seen_of v line))
