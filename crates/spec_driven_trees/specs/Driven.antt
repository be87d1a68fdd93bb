-- Trees that are written: the answers to what a tree asks, one after the other, give its value and its words.
use Rattle.std.specs.Prelude.{◌≡◌, ℕ, Bool, List, [], ◌∷◌, ◌++◌, Option, Some, None, Result, Ok, Err}
use Rattle.spec_formats.specs.Format.{Format, Give, Refuse, One, Then, Word, Spells}
use Rattle.spec_cabac.specs.Bins.{Bin, BinValue, Decision, Bypass, Terminate, PcmStart, Sample, PcmEnd, Tree}

-- a bin, and a number
pub data Answer : Type 0 where
  Bit : Bool → Answer
  Number : ℕ → Answer

-- a value, the words that were written, and the answers that are left
pub record Driven (X : Type 0) : Type 0 where
  pub value : X
  pub words : List (Word Bin BinValue)
  pub left : List Answer

abbrev pub asked : (bin : Bin) → BinValue bin → List Answer → Option (Driven (BinValue bin))
asked bin x left = Some (record { value = x; words = (bin, x) ∷ []; left = left })

-- what answers give to a question
unfoldable pub answered : (bin : Bin) → List Answer → Option (Driven (BinValue bin))
answered (Decision i) (Bit b ∷ left) = asked (Decision i) b left
answered Bypass (Bit b ∷ left) = asked Bypass b left
answered Terminate (Bit b ∷ left) = asked Terminate b left
answered PcmStart left = asked PcmStart tt left
answered (Sample size) (Number n ∷ left) = asked (Sample size) n left
answered PcmEnd left = asked PcmEnd tt left
answered bin left = None

abbrev pub behind : {X : Type 0} → List (Word Bin BinValue) → Option (Driven X) → Option (Driven X)
behind words None = None
behind words (Some d) = Some (record { value = d.value; words = words ++ d.words; left = d.left })

abbrev pub then_driven : {X Y : Type 0} → Option (Driven X) → (X → List Answer → Option (Driven Y)) → Option (Driven Y)
then_driven None f = None
then_driven (Some d) f = behind d.words (f d.value d.left)

-- what answers give to a tree
abbrev pub driven : {X : Type 0} → Tree X → List Answer → Option (Driven X)
driven (Give x) answers = Some (record { value = x; words = []; left = answers })
driven (Refuse e) answers = None
driven (One bin) answers = answered bin answers
driven (Then m f) answers = then_driven (driven m answers) (λ x left. driven (f x) left)

-- the words that answers give to a tree spell the value that they give
abbrev pub IsSpelledByAnswers : {X : Type 0} → Tree X → Type 0
IsSpelledByAnswers {X} format = (answers : List Answer) (d : Driven X) → driven format answers ≡ Some d
    → Spells format d.value d.words
