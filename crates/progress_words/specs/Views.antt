-- What one pass knows, and how a view is cut in two and two are put together.
use Rattle.std.specs.Prelude.{ℕ, ◌≡◌, ◌+◌, ◌<◌, ◌≤◌, ◌||◌, ◌⊎◌, [], Bool, true, false, Option, Some, None, min}
use Rattle.std.specs.Prelude.{slice_index}
use Rattle.progress_words.specs.declared.view.View.{View}
use Rattle.progress_words.specs.Meanings.{Meaning}
use Rattle.progress_words.specs.Counts.{put, greater, added}
use Rattle.progress_words.specs.Faults.{no_fault, unit_in}

-- how many units of the line this pass has seen counted, and how often it has loaded the line's word
abbrev pub seen_of : {F : Type 0} → View F → ℕ → ℕ
seen_of v l = slice_index v.seen l

abbrev pub loads_of : {F : Type 0} → View F → ℕ → ℕ
loads_of v l = slice_index v.loads l

-- the view that `open` gives
abbrev pub opener : {F : Type 0} → F → View F
opener f = record {
  facts = Some f;
  seen = [];
  loads = [];
  least = no_fault;
  fault_loads = 0;
  job = None;
  written = 0;
  none = false;
  opens = true;
  splits = 0;
  joins = 0;
}

abbrev pub spent : {F : Type 0} → View F
spent = record {
  facts = None;
  seen = [];
  loads = [];
  least = no_fault;
  fault_loads = 0;
  job = None;
  written = 0;
  none = false;
  opens = false;
  splits = 0;
  joins = 0;
}

abbrev pub kept_part : {F : Type 0} → View F → View F
kept_part v = record v { splits = v.splits + 1 }

abbrev pub new_part : {F : Type 0} → View F → View F
new_part v = record {
  facts = v.facts;
  seen = v.seen;
  loads = [];
  least = v.least;
  fault_loads = 0;
  job = None;
  written = 0;
  none = false;
  opens = false;
  splits = 0;
  joins = 0;
}

abbrev pub joined : {F : Type 0} → View F → View F → View F
joined v w =
    record {
      facts = v.facts;
      seen = greater v.seen w.seen;
      loads = added v.loads w.loads;
      least = min v.least w.least;
      fault_loads = v.fault_loads + w.fault_loads;
      job = None;
      written = 0;
      none = v.none || w.none;
      opens = v.opens || w.opens;
      splits = v.splits + w.splits;
      joins = (v.joins + w.joins) + 1;
    }

-- the line was loaded, and n found
abbrev pub looking : {F : Type 0} → View F → ℕ → ℕ → View F
looking v l n = record v { seen = put v.seen l n; loads = put v.loads l (loads_of v l + 1) }

-- one more word of the next unit is written
abbrev pub writing : {F : Type 0} → View F → View F
writing v = record v { written = v.written + 1 }

-- n units of the line are counted
abbrev pub counting : {F : Type 0} → View F → ℕ → ℕ → View F
counting v l n = record v { seen = put v.seen l n; written = 0 }

abbrev pub holding : {F : Type 0} → View F → ℕ → View F
holding v l = record v { job = Some l; written = 0 }

abbrev pub finding_none : {F : Type 0} → View F → View F
finding_none v = record v { none = true }

-- the fault word was loaded, and n found
abbrev pub checking : {F : Type 0} → View F → ℕ → View F
checking v n = record v { least = n; fault_loads = v.fault_loads + 1 }

-- the fault word is n at most
abbrev pub stopping : {F : Type 0} → View F → ℕ → View F
stopping v n = record v { least = n }

-- 1 for a view that isn't spent, and for one that is spent or had a None
abbrev pub live_by : {F : Type 0} → Option F → ℕ
live_by None = 0
live_by (Some f) = 1

abbrev pub ended_by : {F : Type 0} → Option F → Bool → ℕ
ended_by None b = 1
ended_by (Some f) true = 1
ended_by (Some f) false = 0

abbrev pub one_if : Bool → ℕ
one_if true = 1
one_if false = 0

abbrev pub is_live : {F : Type 0} → View F → ℕ
is_live v = live_by v.facts

abbrev pub is_ended : {F : Type 0} → View F → ℕ
is_ended v = ended_by v.facts v.none

abbrev pub is_opener : {F : Type 0} → View F → ℕ
is_opener v = one_if v.opens

abbrev pub splits_of : {F : Type 0} → View F → ℕ
splits_of v = v.splits

abbrev pub joins_of : {F : Type 0} → View F → ℕ
joins_of v = v.joins

-- the units below n of the line are sound
abbrev pub AllSound : Meaning → ℕ → ℕ → Type 0
AllSound m l n = (k : ℕ) → k < n → m.sound l k ≡ true

-- the job held, if any, has ended: its line is full, or a fault was seen that isn't above its next unit
abbrev pub HasEnded : {F : Type 0} → Meaning → View F → Type 0
HasEnded m v =
    (l : ℕ) → v.job ≡ Some l → (m.width l ≤ seen_of v l) ⊎ (unit_in v.least ≤ m.number l (seen_of v l))

-- the count of the line held
abbrev pub count_by : {F : Type 0} → Option ℕ → View F → ℕ
count_by None v = 0
count_by (Some l) v = seen_of v l

abbrev pub count_held : {F : Type 0} → View F → ℕ
count_held v = count_by v.job v
