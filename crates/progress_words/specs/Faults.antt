-- The fault word: a unit with the rule that it breaks, in one word. No fault is the greatest word.
use Rattle.std.specs.Prelude.{ℕ, ◌≡◌, ◌+◌, ◌*◌, ◌/◌, ◌≤◌, ◌⊎◌, Some, None}
use Rattle.progress_words.specs.Meanings.{Meaning}

abbrev pub packed : ℕ → ℕ → ℕ
packed unit rule = 32 * unit + rule

abbrev pub no_fault : ℕ
no_fault = 18446744073709551615

-- the number of the unit in a fault word; that of no fault is above the number of each unit
abbrev pub unit_in : ℕ → ℕ
unit_in word = word / 32

-- the word names a bad unit and the rule that it breaks
pub record NamesBad (m : Meaning) (word : ℕ) : Type 0 where
  pub line : ℕ
  pub unit : ℕ
  pub rule : ℕ
  pub bad : m.bad line unit ≡ Some rule
  pub word_is : word ≡ packed (m.number line unit) rule

abbrev pub IsFault : Meaning → ℕ → Type 0
IsFault m word = (word ≡ no_fault) ⊎ NamesBad m word

-- no bad unit comes before that of the word
abbrev pub IsLeast : Meaning → ℕ → Type 0
IsLeast m word = (l k r : ℕ) → m.bad l k ≡ Some r → unit_in word ≤ m.number l k

-- the first fault of the flight: none where no unit is bad, else the bad unit with the least number
abbrev pub IsFirstFault : Meaning → ℕ → Type 0
IsFirstFault m word =
    ((word ≡ no_fault) × ((l k : ℕ) → m.bad l k ≡ None)) ⊎ (NamesBad m word × IsLeast m word)
