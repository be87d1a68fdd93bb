-- A pass of a flight, and one before its work.
use Rattle.std.specs.Prelude.{ℕ, ◌≡◌, ◌<◌, ◌+◌, ◌*◌, ◌%◌, ◌^◌, List, None, false, slice_index}
use Rattle.progress_words.specs.declared.pass.Pass.{Pass}
use Rattle.progress_words.specs.Meanings.{Meaning}
use Rattle.progress_words.specs.Faults.{unit_in}
use Rattle.progress_words.specs.Core.{fault_in}
use Rattle.progress_words.specs.Places.{Place}
use Rattle.progress_words.specs.Passes.{view, IsPassOf}
use Rattle.board_tests.specs.declared.flight.Sums.{Sums}
use Rattle.board_tests.specs.declared.flight.Meant.{Meant}
use Rattle.board_tests.specs.Sums.{meaning_of, value, place}

-- what a flight means
abbrev pub meaning_in : Sums → Meaning
meaning_in f = meaning_of f.input.items f.marks.items f.rows f.width

abbrev pub IsOf : Place Meant → Sums → Pass Meant → Type 0
IsOf b f p = IsPassOf b p × (b.flight.sums.value ≡ f)

abbrev pub IsFresh : Place Meant → Sums → Pass Meant → Type 0
IsFresh b f p = IsOf b f p × ((view p).job ≡ None) × ((view p).none ≡ false)

-- the words of each unit before the fault word are its value and the number after it
abbrev pub AreSums : Sums → List ℕ → Type 0
AreSums f words =
    (l k j : ℕ) → l < f.rows → k < f.width → j < 2 → l * f.width + k < unit_in (fault_in (meaning_in f) words)
    → slice_index words (place f.rows f.width l k j) ≡ (value f.input.items f.width l k + j) % 2 ^ 64
