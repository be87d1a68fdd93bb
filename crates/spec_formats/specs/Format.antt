-- Formats: what is asked of data one after the other, up to a value or a broken rule.
use Rattle.std.specs.Prelude.{◌≡◌, Bool, cond, List, [], ◌∷◌, ◌++◌, Result, Ok, Err}
use Rattle.hv_base.specs.declared.breach.Breach.{Breach}

-- a value, a breach, one question, or a format whose value chooses the next one
pub data Format (Question : Type 0) (Answer : Question → Type 0) : Type 0 → Type 1 where
  Give : {X : Type 0} → X → Format Question Answer X
  Refuse : {X : Type 0} → Breach → Format Question Answer X
  One : (q : Question) → Format Question Answer (Answer q)
  Then : {X Y : Type 0} → Format Question Answer X → (X → Format Question Answer Y) → Format Question Answer Y

infixl 10 ◌>>=◌
abbrev pub ◌>>=◌ : {Question : Type 0} {Answer : Question → Type 0} {X Y : Type 0} → Format Question Answer X
    → (X → Format Question Answer Y) → Format Question Answer Y
m >>= f = Then m f

-- a value that is asked nothing for
abbrev pub give : {Question : Type 0} {Answer : Question → Type 0} {X : Type 0} → X → Format Question Answer X
give x = Give x

-- what stops the reading
abbrev pub refuse : {Question : Type 0} {Answer : Question → Type 0} {X : Type 0} → Breach → Format Question Answer X
refuse e = Refuse e

infix 5 when◌then◌else◌
-- one of two formats
abbrev pub when◌then◌else◌ : {Question : Type 0} {Answer : Question → Type 0} {X : Type 0} → Bool
    → Format Question Answer X → Format Question Answer X → Format Question Answer X
when b then m else n = cond b m n

-- goes on only where a fact holds; else the breach stops the reading
abbrev pub wanted : {Question : Type 0} {Answer : Question → Type 0} → Bool → Breach → Format Question Answer Bool
wanted fact e = when fact then Give fact else Refuse e

-- what a state answers to each question, and the state behind it
abbrev pub Answers : (S Question : Type 0) → (Question → Type 0) → Type 0
Answers S Question Answer = (q : Question) → S → Result (Answer q × S) Breach

-- reading goes on behind a value
abbrev pub bind : {S X Y : Type 0} → Result (X × S) Breach → (X → S → Result (Y × S) Breach) → Result (Y × S) Breach
bind (Ok x) f = f x.0 x.1
bind (Err e) f = Err e

-- reading a format: its value and the state behind it, or the first breach
abbrev pub reading : {S Question : Type 0} {Answer : Question → Type 0} → Answers S Question Answer
    → {X : Type 0} → Format Question Answer X → S → Result (X × S) Breach
reading answers (Give x) s = Ok (x, s)
reading answers (Refuse e) s = Err e
reading answers (One q) s = answers q s
reading answers (Then m f) s = bind (reading answers m s) (λ x t. reading answers (f x) t)

-- a question and its answer
abbrev pub Word : (Question : Type 0) → (Question → Type 0) → Type 0
Word Question Answer = (q : Question) × Answer q

-- these words spell this value
abbrev pub Spells : {Question : Type 0} {Answer : Question → Type 0} {X : Type 0} → Format Question Answer X → X
    → List (Word Question Answer) → Type 0
Spells (Give x) y words = (x ≡ y) × (words ≡ [])
Spells (Refuse e) y words = ⊥
Spells (One q) y words = words ≡ (q, y) ∷ []
Spells {Question} {Answer} (Then {X} m f) y words =
    (x : X) × (first rest : List (Word Question Answer)) × Spells m x first × Spells (f x) y rest
    × (words ≡ first ++ rest)

-- from one state to another the data have these words
abbrev pub Has : {S Question : Type 0} {Answer : Question → Type 0} → Answers S Question Answer → S
    → List (Word Question Answer) → S → Type 0
Has answers s [] t = s ≡ t
Has {S} answers s (w ∷ words) t = (next : S) × (answers w.0 s ≡ Ok (w.1, next)) × Has answers next words t

-- what is read is spelled by words of the data, and what words of the data spell is read
pub record IsSpelledAs {S Question : Type 0} {Answer : Question → Type 0} (answers : Answers S Question Answer)
    {X : Type 0} (format : Format Question Answer X) : Type 0 where
  pub found : (s t : S) (x : X) → reading answers format s ≡ Ok (x, t)
      → (words : List (Word Question Answer)) × Spells format x words × Has answers s words t
  pub only : (s t : S) (x : X) (words : List (Word Question Answer)) → Spells format x words → Has answers s words t
      → reading answers format s ≡ Ok (x, t)

-- what stands behind the words that were written before are words that spell this value
abbrev pub Writes : {Question : Type 0} {Answer : Question → Type 0} {X : Type 0} → Format Question Answer X → X
    → List (Word Question Answer) → List (Word Question Answer) → Type 0
Writes (Give x) y before after = (x ≡ y) × (after ≡ before)
Writes (Refuse e) y before after = ⊥
Writes (One q) y before after = after ≡ before ++ (q, y) ∷ []
Writes {Question} {Answer} (Then {X} m f) y before after =
    (x : X) × (between : List (Word Question Answer)) × Writes m x before between × Writes (f x) y between after

-- what was written behind nothing is read from data that have it
abbrev pub IsReadAgain : {S Question : Type 0} {Answer : Question → Type 0} → Answers S Question Answer
    → {X : Type 0} → Format Question Answer X → Type 0
IsReadAgain {S} {Question} {Answer} answers {X} format = (x : X) (words : List (Word Question Answer)) (s t : S)
    → Writes format x [] words → Has answers s words t → reading answers format s ≡ Ok (x, t)
