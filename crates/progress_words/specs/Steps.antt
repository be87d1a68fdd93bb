-- What each kind of step tells.
use Rattle.std.specs.Prelude.{ℕ, ◌≡◌, ◌<◌, ◌≤◌, Some, min}
use Rattle.atomic_table.specs.Table.{Me, Step}
use Rattle.progress_words.specs.declared.view.View.{View}
use Rattle.progress_words.specs.Meanings.{Meaning, count_word}
use Rattle.progress_words.specs.Faults.{IsFault}
use Rattle.progress_words.specs.Views.{seen_of, looking, writing, counting, holding, finding_none, checking, stopping}
use Rattle.progress_words.specs.Views.{AllSound}

module _ {F S : Type 0} (meaning : F → Meaning) where
  -- load line
  abbrev pub looked : Step S → Me S (View F) → ℕ → Me S (View F) → Type 0
  looked s v n w =
      (l : ℕ) → s.word ≡ count_word l
      → (w ≡ (looking v.0 l n, v.1)) × (seen_of v.0 l ≤ n) × (v.0.job ≡ Some l → n ≡ seen_of v.0 l)
      × ((f : F) → v.0.facts ≡ Some f → AllSound (meaning f) l n)

  -- load data
  abbrev pub read : Step S → Me S (View F) → ℕ → Me S (View F) → Type 0
  read s v n w = (w ≡ v) × ((f : F) → v.0.facts ≡ Some f → n ≡ (meaning f).expected s.word)

  -- store data
  abbrev pub wrote : Step S → Me S (View F) → ℕ → Me S (View F) → Type 0
  wrote s v n w = w ≡ (writing v.0, v.1)

  -- store line
  abbrev pub counted : Step S → Me S (View F) → ℕ → Me S (View F) → Type 0
  counted s v n w =
      (l : ℕ) → s.word ≡ count_word l
      → (w ≡ (counting v.0 l s.first, v.1)) × ((f : F) → v.0.facts ≡ Some f → AllSound (meaning f) l s.first)

  -- fetch_add
  abbrev pub drew : Step S → Me S (View F) → ℕ → Me S (View F) → Type 0
  drew s v n w =
      ((f : F) → v.0.facts ≡ Some f → n < (meaning f).lines
      → (w ≡ (holding v.0 ((meaning f).line_at n), v.1)) × ((meaning f).line_at n < (meaning f).lines)
      × (seen_of v.0 ((meaning f).line_at n) ≡ 0))
      × ((f : F) → v.0.facts ≡ Some f → (meaning f).lines ≤ n → w ≡ (finding_none v.0, v.1))

  -- load fault
  abbrev pub checked : Step S → Me S (View F) → ℕ → Me S (View F) → Type 0
  checked s v n w =
      (w ≡ (checking v.0 n, v.1)) × (n ≤ v.0.least) × ((f : F) → v.0.facts ≡ Some f → IsFault (meaning f) n)

  -- fetch_min
  abbrev pub lowered : Step S → Me S (View F) → ℕ → Me S (View F) → Type 0
  lowered s v n w =
      (w ≡ (stopping v.0 (min n s.first), v.1)) × (n ≤ v.0.least)
      × ((f : F) → v.0.facts ≡ Some f → IsFault (meaning f) (min n s.first))
