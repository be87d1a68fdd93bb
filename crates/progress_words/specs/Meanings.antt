-- What a flight means: its lines, units and words, what each unit needs, what each word is to hold, and which units
-- break a rule.
use Rattle.std.specs.Prelude.{ℕ, ◌≡◌, ◌+◌, ◌*◌, ◌<◌, ◌≤◌, List, Bool, true, Option, Some, None}

-- the unit that has a word, as a line and a number in it, and the word's number in the unit
pub record Spot : Type 0 where
  pub line : ℕ
  pub unit : ℕ
  pub index : ℕ

pub record Meaning : Type 0 where
  pub lines : ℕ
  pub total : ℕ
  -- lines are drawn by tickets, which count from 0
  pub line_at : ℕ → ℕ
  pub ticket_of : ℕ → ℕ
  -- the units of a line, the number of a unit in the flight, and the words of a unit
  pub width : ℕ → ℕ
  pub number : ℕ → ℕ → ℕ
  pub size : ℕ → ℕ → ℕ
  pub owner : ℕ → Spot
  -- lines, each with the count that it must have reached before a unit is counted, and before it is found to be bad
  pub needs : ℕ → ℕ → List (ℕ × ℕ)
  pub read_needs : ℕ → ℕ → List (ℕ × ℕ)
  pub expected : ℕ → ℕ
  pub sound : ℕ → ℕ → Bool
  -- the rule that a unit breaks
  pub bad : ℕ → ℕ → Option ℕ

-- no sound unit is bad, and a bad unit is one of the flight and breaks a rule with a number below 32
pub record IsLawful (m : Meaning) : Type 0 where
  pub apart : (l k : ℕ) → m.sound l k ≡ true → m.bad l k ≡ None
  pub inside : (l k r : ℕ) → m.bad l k ≡ Some r → (l < m.lines) × (k < m.width l) × (r < 32)

-- The words that many threads write stand first, eight words apart, so that each has a cache line of its own: the
-- counts of the lines, the ticket, the fault word. The data words stand behind them
abbrev pub count_word : ℕ → ℕ
count_word l = 8 * l

abbrev pub ticket_word : Meaning → ℕ
ticket_word m = 8 * m.lines

abbrev pub fault_word : Meaning → ℕ
fault_word m = 8 * m.lines + 8

abbrev pub first_data_word : Meaning → ℕ
first_data_word m = 8 * m.lines + 16

-- a data word of the flight
abbrev pub IsData : Meaning → ℕ → Type 0
IsData m w = (first_data_word m ≤ w) × (w < m.total)

pub record IsLaid (m : Meaning) : Type 0 where
  pub room : first_data_word m ≤ m.total
  pub small : m.total < 2305843009213693952
  pub narrow : (l : ℕ) → m.width l < 2305843009213693952
  -- each line has one ticket, and each ticket one line
  pub ticketed : (l : ℕ) → l < m.lines → (m.ticket_of l < m.lines) × (m.line_at (m.ticket_of l) ≡ l)
  pub drawn : (t : ℕ) → t < m.lines → (m.line_at t < m.lines) × (m.ticket_of (m.line_at t) ≡ t)
  -- the units of a line are numbered in their order
  pub few : (l k : ℕ) → l < m.lines → k < m.width l → m.number l k < 576460752303423487
  pub ordered : (l j k : ℕ) → l < m.lines → j ≤ k → k < m.width l → m.number l j ≤ m.number l k
  -- each data word has one unit of the flight, and no other word has its place in that unit
  pub inside : (w : ℕ) → IsData m w → ((m.owner w).line < m.lines)
      × ((m.owner w).unit < m.width (m.owner w).line) × ((m.owner w).index < m.size (m.owner w).line
      (m.owner w).unit)
  pub once : (w x : ℕ) → IsData m w → IsData m x → m.owner w ≡ m.owner x → w ≡ x
