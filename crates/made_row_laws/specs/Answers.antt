-- The answers of words, by which they drive a tree.
use Rattle.std.specs.Prelude.{List, [], ◌∷◌, Some}
use Rattle.std.specs.Prelude.{◌≡◌}
use Rattle.spec_cabac.specs.Bins.{Bin, BinValue, Tree, Decision, Bypass, Terminate, PcmStart, Sample, PcmEnd}
use Rattle.spec_formats.specs.Format.{Word}
use Rattle.spec_driven_trees.specs.Driven.{Answer, Bit, Number, driven}
use Rattle.spec_made.specs.Written.{Bins}

-- a bin's value, or the number of a sample, in front of others
abbrev pub with_answer : Word Bin BinValue → List Answer → List Answer
with_answer (Decision i, b) answers = Bit b ∷ answers
with_answer (Bypass, b) answers = Bit b ∷ answers
with_answer (Terminate, b) answers = Bit b ∷ answers
with_answer (PcmStart, x) answers = answers
with_answer (Sample size, n) answers = Number n ∷ answers
with_answer (PcmEnd, x) answers = answers

abbrev pub answers_of : Bins → List Answer
answers_of [] = []
answers_of (w ∷ words) = with_answer w (answers_of words)

-- the answers of these words drive a tree to a value, the words are those that it then has, and no answer is left
abbrev pub IsDriven : {X : Type 0} → Tree X → X → Bins → Type 0
IsDriven tree x words = driven tree (answers_of words) ≡ Some (record { value = x; words = words; left = [] })
