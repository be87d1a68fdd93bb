-- The core that the words show: what is drawn, counted and found to be bad, and the events that lead there.
use Rattle.std.specs.Prelude.{ℕ, ◌≡◌, ◌+◌, ◌<◌, ◌≤◌, List, [], ◌∷◌, All, Some, true, min, slice_index}
use Rattle.progress_words.specs.Meanings.{Meaning, count_word, ticket_word, fault_word}
use Rattle.progress_words.specs.Counts.{put}
use Rattle.progress_words.specs.Faults.{packed, no_fault}

-- the count of a line, the ticket and the fault word
abbrev pub count_in : List ℕ → ℕ → ℕ
count_in words l = slice_index words (count_word l)

abbrev pub ticket_in : Meaning → List ℕ → ℕ
ticket_in m words = slice_index words (ticket_word m)

abbrev pub fault_in : Meaning → List ℕ → ℕ
fault_in m words = slice_index words (fault_word m)

-- the needs of a unit are counted
abbrev pub AreMet : Meaning → (ℕ → ℕ) → List (ℕ × ℕ) → Type 0
AreMet m count needs = All (λ need. (need.0 < m.lines) × (need.1 ≤ count need.0)) needs

pub record Core : Type 0 where
  pub counts : List ℕ
  pub drawn : ℕ
  -- the least fault that was found, as a fault word
  pub least : ℕ

-- the next job is drawn; the next unit of a line is counted, or found to break a rule
pub data Event : Type 0 where
  Draw : Event
  Count : ℕ → Event
  Fault : ℕ → ℕ → Event

abbrev pub count_of : Core → ℕ → ℕ
count_of c l = slice_index c.counts l

-- the line is drawn and has a next unit
abbrev pub HasNext : Meaning → Core → ℕ → Type 0
HasNext m c l = (l < m.lines) × (m.ticket_of l < c.drawn) × (count_of c l < m.width l)

abbrev pub IsReady : Meaning → Core → Event → Type 0
IsReady m c Draw = c.drawn < m.lines
IsReady m c (Count l) = HasNext m c l × (m.sound l (count_of c l) ≡ true)
    × AreMet m (count_of c) (m.needs l (count_of c l))
IsReady m c (Fault l r) = HasNext m c l × (m.bad l (count_of c l) ≡ Some r)
    × AreMet m (count_of c) (m.read_needs l (count_of c l))

abbrev pub after : Meaning → Core → Event → Core
after m c Draw = record { counts = c.counts; drawn = c.drawn + 1; least = c.least }
after m c (Count l) = record { counts = put c.counts l (count_of c l + 1); drawn = c.drawn; least = c.least }
after m c (Fault l r) =
    record { counts = c.counts; drawn = c.drawn; least = min c.least (packed (m.number l (count_of c l)) r) }

abbrev pub run : Meaning → Core → List Event → Core
run m c [] = c
run m c (e ∷ es) = run m (after m c e) es

-- each event is ready when it is taken
abbrev pub AllReady : Meaning → Core → List Event → Type 0
AllReady m c [] = Unit {0}
AllReady m c (e ∷ es) = IsReady m c e × AllReady m (after m c e) es

abbrev pub at_first : Core
at_first = record { counts = []; drawn = 0; least = no_fault }

-- the words show the core after some list of events, each ready when it was taken
pub record IsReached (m : Meaning) (words : List ℕ) : Type 0 where
  pub events : List Event
  pub ready : AllReady m at_first events
  pub counts : (l : ℕ) → l < m.lines → count_of (run m at_first events) l ≡ count_in words l
  pub drawn : (run m at_first events).drawn ≡ min (ticket_in m words) m.lines
  pub least : (run m at_first events).least ≡ fault_in m words
