-- What a pass knows when it has written words, and when it has waited.
use Rattle.std.specs.Prelude.{ℕ, ◌≡◌, ◌≢◌, ◌+◌, ◌<◌, ◌≤◌, List, All}
use Rattle.progress_words.specs.declared.view.View.{View}
use Rattle.progress_words.specs.Meanings.{Meaning}
use Rattle.progress_words.specs.Views.{AllSound, loads_of, seen_of}

-- n more words of the next unit are written
abbrev pub writing_run : {F : Type 0} → View F → ℕ → View F
writing_run v n = record v { written = v.written + n }

-- no need names line l
abbrev pub NameOthers : ℕ → List (ℕ × ℕ) → Type 0
NameOthers l needs = All (λ need. need.0 ≢ l) needs

-- lines that needs name by number were loaded, and no others, and the fault word, all of them any number of times; what
-- is seen of a line that wasn't loaded is the same
pub record HasGone {F : Type 0} (v : View F) (needs : List (ℕ × ℕ)) (w : View F) : Type 0 where
  pub same : w ≡ record v { seen = w.seen; loads = w.loads; least = w.least; fault_loads = w.fault_loads }
  pub more : (l : ℕ) → seen_of v l ≤ seen_of w l
  pub less : w.least ≤ v.least
  pub loaded : (l : ℕ) → loads_of v l ≤ loads_of w l
  pub checked : v.fault_loads ≤ w.fault_loads
  pub still : (l : ℕ) → loads_of w l ≡ loads_of v l → seen_of w l ≡ seen_of v l
  pub others : (l : ℕ) → NameOthers l needs → (seen_of w l ≡ seen_of v l) × (loads_of w l ≡ loads_of v l)

-- what is seen of each line that was loaded since is sound
abbrev pub AreSound : {F : Type 0} → Meaning → View F → View F → Type 0
AreSound m v w = (l : ℕ) → loads_of v l < loads_of w l → AllSound m l (seen_of w l)

-- all units that it has seen counted are sound
abbrev pub AreAllSound : {F : Type 0} → Meaning → View F → Type 0
AreAllSound m v = (l : ℕ) → AllSound m l (seen_of v l)
