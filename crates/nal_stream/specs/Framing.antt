-- What a framer stands for: the bytes that it was fed, the units that it gave, and whether the input has ended.
use Rattle.std.specs.Prelude.{◌≡◌, ⊤, ℕ, Bool, true, false, List, [], ◌∷◌, ◌++◌, drop, Option, Some, None}
use Rattle.spec_nal_units.specs.Units.{Part, unit_at, Padding, Inside, parts}
use Rattle.spec_nal_units.specs.Judged.{Told, Whole, Broken, Met, unit_of, next_number, told_from, told_of}
use Rattle.nal_stream.specs.declared.answer.Next.{Next}
use Rattle.nal_stream.specs.declared.answer.Next.TheVariants as next
use Rattle.nal_stream.specs.declared.refused.Refused.{Refused}
use Rattle.nal_stream.specs.declared.refused.Refused.TheVariants as refused
use Rattle.nal_stream.specs.declared.framer.Framer.{Framer}

-- what a framer was fed, what it gave of it, units alone, and whether the input has ended
pub record History : Type 0 where
  pub fed : List ℕ
  pub given : List Told
  pub finished : Bool

-- of a new framer
abbrev pub nothing : History
nothing = record { fed = []; given = []; finished = false }

-- after more bytes
abbrev pub with_piece : History → List ℕ → History
with_piece h piece = record { fed = h.fed ++ piece; given = h.given; finished = h.finished }

-- after the input's end
abbrev pub at_end : History → History
at_end h = record { fed = h.fed; given = h.given; finished = true }

-- after an answer
abbrev pub with_answer : History → Next → History
with_answer h (next.Unit n) = record { fed = h.fed; given = h.given ++ Whole (unit_of n) ∷ []; finished = h.finished }
with_answer h other = h

-- what the answer to such a history is: the next unit, the fault or the limit that comes after the units given, or
-- that nothing is left
abbrev pub IsNext : History → Next → Type 0
IsNext h (next.Unit n) = (later : List Told) × (told_of h.finished h.fed ≡ h.given ++ Whole (unit_of n) ∷ later)
IsNext h (next.Fault f) = told_of h.finished h.fed ≡ h.given ++ Broken f ∷ []
IsNext h (next.Limit l) = told_of h.finished h.fed ≡ h.given ++ Met l ∷ []
IsNext h next.More = (h.finished ≡ false) × (told_of false h.fed ≡ h.given)
IsNext h next.End = (h.finished ≡ true) × (told_of true h.fed ≡ h.given)

-- the bytes that a framer holds and hasn't taken
abbrev pub pending : Framer → List ℕ
pending f = drop f.start f.bytes.items

-- the parts of bytes that begin a unit, or that stand behind so many zero bytes of padding
abbrev pub parts_here : Bool → ℕ → Bool → List ℕ → List Part
parts_here true padded ended bytes = unit_at ended bytes ++ parts ended Inside bytes
parts_here false padded ended bytes = parts ended (Padding padded) bytes

abbrev pub told_refused : Refused → Told
told_refused (refused.Fault f) = Broken f
told_refused (refused.Limit l) = Met l

abbrev pub to_come_of : Option Refused → Framer → Bool → List ℕ → List Told
to_come_of (Some r) f ended rest = told_refused r ∷ []
to_come_of None f ended rest = told_from f.began ended f.index (parts_here f.inside f.zeros ended (pending f ++ rest))

-- what a framer is still to tell, were it fed the rest
abbrev pub to_come : Framer → Bool → List ℕ → List Told
to_come f ended rest = to_come_of f.refused f ended rest

-- how an input may go on: in any way before its end, and then in none
abbrev pub CanGoOn : Bool → Bool → List ℕ → Type 0
CanGoOn false ended rest = ⊤
CanGoOn true ended rest = (ended ≡ true) × (rest ≡ [])

-- a framer stands for a history: however the input goes on, what it is told as is what was given and what is to come
pub record StandsFor (f : Framer) (h : History) : Type 0 where
  pub finished : f.finished ≡ h.finished
  pub told : (ended : Bool) (rest : List ℕ) → CanGoOn f.finished ended rest
      → told_of ended (h.fed ++ rest) ≡ h.given ++ to_come f ended rest

-- a framer came from another and told so much
pub record Goes (old new : Framer) (told : List Told) : Type 0 where
  pub finished : new.finished ≡ old.finished
  pub to_tell : (ended : Bool) (rest : List ℕ) → CanGoOn old.finished ended rest
      → to_come old ended rest ≡ told ++ to_come new ended rest

-- and answered this
abbrev pub Answers : Next → Framer → Framer → Type 0
Answers (next.Unit n) old new = Goes old new (Whole (unit_of n) ∷ [])
Answers (next.Fault f) old new = Goes old new [] × (new.refused ≡ Some (refused.Fault f))
Answers (next.Limit l) old new = Goes old new [] × (new.refused ≡ Some (refused.Limit l))
Answers next.More old new = Goes old new [] × (old.finished ≡ false) × (to_come new false [] ≡ [])
Answers next.End old new = Goes old new [] × (old.finished ≡ true) × (to_come new true [] ≡ [])

-- what a judged unit tells, before what follows it
abbrev pub before : Next → List Told → List Told
before (next.Unit n) later = Whole (unit_of n) ∷ later
before (next.Fault f) later = Broken f ∷ []
before (next.Limit l) later = Met l ∷ []
before next.More later = later
before next.End later = later

-- the unit that a framer stands at is judged so, and takes so many bytes
abbrev pub IsJudged : Framer → Next → ℕ → Type 0
IsJudged f judged taken = (ended : Bool) (rest : List ℕ) → CanGoOn f.finished ended rest
    → to_come f ended rest
    ≡ before judged
    (told_from true ended (next_number f.index) (parts ended (Padding 0) (drop taken (pending f) ++ rest)))
